use Rattle.std.proofs.Common.{◌≡◌, ◌<◌, ◌+◌, ◌∙◌, ◌++◌, ap, sym, refl, subst, length, map, Some, arith, inl, inr, ⊎_elim}
use Rattle.std.specs.Prelude.{codes, slice_get, option_map, string_bytes}
use Rattle.std.specs.Str.Lossy.{utf8_lossy}
use Rattle.std.proofs.lemmas.Bool.{and_parts, and_cases}
use Rattle.std.proofs.lemmas.List.{length-map}
use Rattle.std.proofs.lemmas.Option.{slice_get_read, slice_get-map}
use Rattle.source.specs.declared.finding.Code.TheVariants.{C03}
use Rattle.program.specs.declared.contract.Sign.TheVariants.{Send, Receive}
use Rattle.contracts.specs.Conditions.{IsBoth, finding_model}
use Rattle.contracts.specs.Found.{FoundBelow}
use Rattle.contracts.specs.Parts.{state_model}
use Rattle.contracts.proofs.ConditionLemmas.{both_more, both_same, parts_are, pushed}
use Rattle.contracts.proofs.GraphLemmas.{leaves_state, marked_leaves, none_leave_state, state_number}
use Rattle.contracts.proofs.PartLemmas.{numbers_once}
use Rattle.contracts.proofs.conditions.both_directions.Goals as goal
use Rattle.contracts.proofs.conditions.both_directions.Goals.{then-index+in_ok-finding+in_ok-push, else-index}

pub loop-i-preserved : goal.loop-i-preserved
loop-i-preserved c =
    let edges = c.args.contract.now.edges.items in
    let all = c.args.contract.now.states.items in
    let names = string_bytes c.args.contract.now.state_names in
    let states = map (state_model names) all in
    let numbers = map (λ s. s.id.0) all in
    let i = c.loop-i.i in
    let size = c.args.contract.now.states.ok in
    let end = c.len-i-end.ensures in
    let test = c.loop-i-test.true in
    let lt : i < length all = omega (arith, size.0, end, test) in
    let sends = c.requires.drawing.sends.graph in
    let receives = c.requires.drawing.receives.graph in
    let size_sends = c.requires.drawing.sends.drawn.long in
    let size_receives = c.requires.drawing.receives.drawn.long in
    let of_states = length-map all (λ s. s.id.0) in
    let sending = marked_leaves sends c.args.drawing.now.sends.leaves.items i c.index.result.now c.requires.drawing.sends.leaves (omega (arith, lt, of_states, size_sends)) c.index.ensures in
    let receiving = marked_leaves receives c.args.drawing.now.receives.leaves.items i c.index-in-loop-i.result.now c.requires.drawing.receives.leaves (omega (arith, lt, of_states, size_receives)) c.index-in-loop-i.ensures in
    elim c.if-index.branch [
      | then-index+in_ok-finding+in_ok-push w ↦
          let state = w.index-state.result.now in
          let s = state_model names state in
          let at : slice_get states i ≡ Some s = slice_get-map (state_model names) all i ∙ ap (option_map (state_model names)) (slice_get_read all (length all) i state refl lt w.index-state.ensures) in
          let number = state_number names all i s at in
          let both = and_parts c.index.result.now c.index-in-loop-i.result.now w.if-index.true in
          subst (FoundBelow (IsBoth states edges) (i + 1)) (sym (ap (λ v. map finding_model v.items) w.found-is
          ∙ pushed c.loop-i.found.items _ _ _ w.in_ok-push.ensures.items (parts_are w.in_ok-finding.finding s.place C03 (codes "both directions in " ++ utf8_lossy s.name) w.in_ok-finding.ensures.place w.in_ok-finding.ensures.code (w.in_ok-finding.ensures.text ∙ ap (λ l. codes "both directions in " ++ utf8_lossy l) w.state_name.ensures))))
          (both_more states edges i s (map finding_model c.loop-i.found.items) at
          (leaves_state numbers edges (λ e. e.sign ≡ Send) sends i s.id c.requires.drawing.sends.drawn number (sym sending ∙ both.0))
          (leaves_state numbers edges (λ e. e.sign ≡ Receive) receives i s.id c.requires.drawing.receives.drawn number (sym receiving ∙ both.1))
          c.loop-i.invariant)
      | else-index w ↦
          let once = numbers_once names all c.requires.whole.states_once in
          let long = length-map all (λ s. s.id.0) in
          subst (λ v. FoundBelow (IsBoth states edges) (i + 1) (map finding_model v.items)) (sym w.found-is)
          (both_same states edges i (map finding_model c.loop-i.found.items)
          (λ s at. let number = state_number names all i s at in ⊎_elim
          (λ none. inl (none_leave_state numbers edges (λ e. e.sign ≡ Send) sends i s.id once c.requires.drawing.sends.drawn (omega (arith, lt, long)) number (sym sending ∙ none)))
          (λ none. inr (none_leave_state numbers edges (λ e. e.sign ≡ Receive) receives i s.id once c.requires.drawing.receives.drawn (omega (arith, lt, long)) number (sym receiving ∙ none)))
          (and_cases c.index.result.now c.index-in-loop-i.result.now w.if-index.false))
          c.loop-i.invariant)
    ]

pub returns : goal.returns
returns c =
    let size = c.args.contract.now.states.ok in
    let end = c.len-i-end.ensures in
    let stop = c.loop-i-test.false in
    let most = c.loop-i.auto.i-end in
    let done : c.loop-i.i ≡ length c.args.contract.now.states.items = omega (arith, size.0, end, stop, most) in
    record { found = subst (λ n. FoundBelow (IsBoth (map (state_model (string_bytes c.args.contract.now.state_names)) c.args.contract.now.states.items) c.args.contract.now.edges.items) n (map finding_model c.loop-i.found.items)) done c.loop-i.invariant }
