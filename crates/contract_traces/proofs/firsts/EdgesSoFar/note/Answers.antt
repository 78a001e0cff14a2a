use Rattle.std.proofs.Common.{◌∙◌, sym, refl}
use Rattle.contracts.specs.Positions.{key_of, pair_cmp}
use Rattle.contract_traces.specs.Tables.{Again, First, key_of_place}
use Rattle.contract_traces.proofs.TableLemmas.{adds_at, adds_updated, pair_exact}
use Rattle.contract_traces.proofs.firsts.EdgesSoFar.note.Goals as goal

pub returns-in_ok-insert-in-Some : goal.returns-in_ok-insert-in-Some
returns-in_ok-insert-in-Some c =
    let old = c.args.self.now.earlier in
    let new = c.insert.new.self in
    Again c.in-Some.first (sym (c.in-Some.ensures ∙ c.get.ensures.value)) refl
    (adds_at old new c.place_key.result (key_of_place c.args.edge.place) c.in-Some.first c.in_ok-insert-in-Some.ensures.updates c.place_key.ensures)

pub returns-in_ok-insert-in-None : goal.returns-in_ok-insert-in-None
returns-in_ok-insert-in-None c =
    First (sym (c.in-None.ensures ∙ c.get.ensures.value))
    (adds_updated pair_cmp pair_exact c.args.self.now.firsts c.insert-in-None.new.self (key_of c.args.edge) c.args.edge c.in_ok-insert-in-None.ensures.updates) refl
