use Rattle.std.proofs.Common.{◌∙◌, map, ap, subst, sym}
use Rattle.std.specs.Prelude.{string_bytes}
use Rattle.std.specs.List.{range_with_len}
use Rattle.std.proofs.lemmas.List.{length-map}
use Rattle.contracts.specs.Parts.{AreConsecutive}
use Rattle.contracts.proofs.PartLemmas.{state_numbers_are}
use Rattle.contracts.proofs.PositionLemmas.{row_is}
use Rattle.contracts.proofs.keys.states_of.Goals as goal

pub returns : goal.returns
returns c =
    let states = c.args.contract.now.states.items in
    let first = c.args.contract.now.first.0 in
    let group = subst (AreConsecutive first) (state_numbers_are (string_bytes c.args.contract.now.state_names) states) c.requires.whole.states_consecutive in
    let long = c.args.contract.now.states.ok in
    c.new.ensures ∙ ap (range_with_len first) (c.len.ensures ∙ long.0 ∙ sym (length-map states (λ s. s.id.0))) ∙ row_is first (map (λ s. s.id.0) states) group
