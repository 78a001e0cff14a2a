use Rattle.std.proofs.Common.{ℕ, ◌+◌, map, refl, subst, sym, take}
use Rattle.std.specs.Prelude.{string_bytes}
use Rattle.std.specs.BTreeMap.{BTreeMap}
use Rattle.std.specs.Ordering.{nat_cmp}
use Rattle.contracts.specs.Positions.{pair_cmp}
use Rattle.program.specs.Parts.{contract_parts, state_model}
use Rattle.program.specs.declared.contract.Edge.{Edge}
use Rattle.program.specs.declared.contract.Sign.TheVariants.{Receive, Send}
use Rattle.contract_traces.specs.Tables.{HasBothAt, IsFirstBy, IsTableOf}
use Rattle.contract_traces.proofs.TableLemmas.{adds_at, both_step, none_step, with_states}
use Rattle.contract_traces.proofs.reasons.both_signs.Goals as goal
use Rattle.contract_traces.proofs.reasons.both_signs.Goals.{in-Some+in_ok-insert, in_default}

pub loop-state-preserved : goal.loop-state-preserved
loop-state-preserved c =
    let parts = contract_parts c.args.contract.now in
    let names = string_bytes c.args.contract.now.state_names in
    let states = c.args.contract.now.states.items in
    let n = c.loop-state.state-index in
    let sends = c.in_ok-sends.sends in
    let receives = c.in_ok-receives.receives in
    let s_table = subst (λ l. IsTableOf nat_cmp (IsFirstBy l Send) sends) c.deref.ensures.value c.in_ok-sends.ensures in
    let r_table = subst (λ l. IsTableOf nat_cmp (IsFirstBy l Receive) receives) c.deref-2.ensures.value c.in_ok-receives.ensures in
    let read = c.deref-state-items.result.now in
    let same = c.deref-state-items.ensures.value in
    let lt = c.loop-state-test.true in
    let old = c.loop-state.both in
    let holds = λ (t : BTreeMap (ℕ × ℕ) (Edge × Edge)). IsTableOf pair_cmp (HasBothAt (with_states parts (map (state_model names) (take (n + 1) states)))) t in
    elim c.match-both_edges.branch [
      | in-Some+in_ok-insert w ↦
          let new = w.insert.new.self in
          let b = w.in-Some.edges in
          subst holds (sym w.both-is)
          (both_step parts names read states n _ _ b sends receives old new same lt s_table r_table w.in-Some.ensures.sends w.in-Some.ensures.receives
          (adds_at old new w.place_key.result _ b w.in_ok-insert.ensures.updates w.place_key.ensures) c.loop-state.invariant refl)
      | in_default w ↦
          subst holds (sym w.both-is) (none_step parts names read states n _ _ sends receives old same lt s_table r_table w.in_default.ensures.none c.loop-state.invariant refl)
    ]
