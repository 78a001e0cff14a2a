use Rattle.std.proofs.Common.{string_bytes, refl, sym, ap, ◌∙◌, map, [], append-nil}
use Rattle.std.proofs.lemmas.List.{get_or_default, take_all}
use Rattle.program.specs.Parts.{state_model}
use Rattle.declarations.specs.Numbered.{counted_as}
use Rattle.declarations.specs.Resolution.{numbered_states}
use Rattle.declarations.proofs.LabelLemmas.{labels_kept, states_more}
use Rattle.declarations.proofs.numbering.number_states.Goals as goal

pub loop-i-preserved : goal.loop-i-preserved
loop-i-preserved c =
    let text = c.args.labels.now.text.now in
    let states = c.args.states.now in
    let old = string_bytes c.loop-i.names in
    let new = string_bytes c.part.new.names in
    let told = c.in_ok-part.ensures in
    record {
      labels = labels_kept c.args.labels.now old new told.more c.loop-i.invariant.labels told.grown;
      states = states_more (counted_as text) c.args.before states c.loop-i.i _ c.loop-i.numbered.items _ _ old new
          c.loop-i-test.true (get_or_default states c.loop-i.i _ _ c.loop-i-test.true) c.loop-i.invariant.states c.in_ok-push.ensures.items
          refl told (c.place.ensures text);
    }

pub returns : goal.returns
returns c =
    let text = c.args.labels.now.text.now in
    ap (λ l. map (state_model l) c.loop-i.numbered.items) (sym (append-nil (string_bytes c.loop-i.names))) ∙ c.loop-i.invariant.states []
    ∙ ap (λ l. numbered_states c.args.before (map (counted_as text) l)) (take_all c.loop-i.i c.args.states.now c.loop-i-test.false)
