use Rattle.std.proofs.Common.{map}
use Rattle.std.specs.Prelude.{string_bytes}
use Rattle.contracts.specs.Conditions.{finding_model, IsRound}
use Rattle.contracts.specs.Found.{FoundBelow}
use Rattle.contracts.specs.Parts.{state_model}
use Rattle.contracts.proofs.conditions.one_direction.Given as goal

abbrev pub invariant-loop-i : goal.invariant-loop-i
invariant-loop-i l = FoundBelow (IsRound (map (state_model (string_bytes l.contract.state_names)) l.contract.states.items) l.contract.edges.items) l.i (map finding_model l.found.items)
