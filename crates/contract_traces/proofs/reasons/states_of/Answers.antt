use Rattle.std.proofs.Common.{refl}
use Rattle.contract_traces.proofs.TableLemmas.{adds_at, state_step}
use Rattle.contract_traces.proofs.reasons.states_of.Goals as goal

pub loop-state-preserved : goal.loop-state-preserved
loop-state-preserved c =
    let old = c.loop-state.by_place in
    let new = c.insert.new.self in
    state_step c.args.states.now c.loop-state.state-index _ _ old new c.loop-state-test.true (adds_at old new c.place_key.result _ _ c.in_ok-insert.ensures.updates c.place_key.ensures) c.loop-state.invariant refl
