use Rattle.std.proofs.Common.{take}
use Rattle.contracts.specs.Positions.{pair_cmp}
use Rattle.contract_traces.specs.Tables.{HasStateAt, IsTableOf}
use Rattle.contract_traces.proofs.reasons.states_of.Given as goal

abbrev pub invariant-loop-state : goal.invariant-loop-state
invariant-loop-state l = IsTableOf pair_cmp (HasStateAt (take l.state-index l.states)) l.by_place
