use Rattle.std.proofs.Common.{◌≡◌, ◌∙◌, subst}
use Rattle.std.specs.Prelude.{MatchOption}
use Rattle.contracts.specs.Positions.{pair_cmp}
use Rattle.contract_traces.specs.Tables.{AddsEntry, key_of_place}
use Rattle.contract_traces.proofs.TableLemmas.{adds_at}
use Rattle.contract_traces.proofs.reasons.note_direction.Goals as goal

pub returns-in_ok-insert : goal.returns-in_ok-insert
returns-in_ok-insert c =
    let old = c.args.directions.now in
    let new = c.insert.new.self in
    let d = c.in-Some.direction in
    subst (λ o. MatchOption o (new ≡ old) (λ x. AddsEntry pair_cmp old new (key_of_place c.args.edge.place) x)) (c.in-Some.ensures ∙ c.get.ensures.value)
    (adds_at old new c.place_key.result (key_of_place c.args.edge.place) d c.in_ok-insert.ensures.updates c.place_key.ensures)
