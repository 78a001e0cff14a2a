use Rattle.std.proofs.Common.{map, take}
use Rattle.std.specs.Prelude.{string_bytes}
use Rattle.contracts.specs.Positions.{pair_cmp}
use Rattle.program.specs.Parts.{contract_parts, state_model}
use Rattle.contract_traces.specs.Tables.{HasBothAt, IsTableOf}
use Rattle.contract_traces.proofs.TableLemmas.{with_states}
use Rattle.contract_traces.proofs.reasons.both_signs.Given as goal

abbrev pub invariant-loop-state : goal.invariant-loop-state
invariant-loop-state l = IsTableOf pair_cmp (HasBothAt (with_states (contract_parts l.contract) (map (state_model (string_bytes l.contract.state_names)) (take l.state-index l.contract.states.items)))) l.both
