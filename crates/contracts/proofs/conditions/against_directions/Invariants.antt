use Rattle.std.proofs.Common.{map}
use Rattle.contracts.specs.Conditions.{finding_model, IsAgainst}
use Rattle.contracts.specs.Found.{FoundBelow}
use Rattle.contracts.specs.Parts.{message_model}
use Rattle.contracts.proofs.conditions.against_directions.Given as goal

abbrev pub invariant-loop-edge : goal.invariant-loop-edge
invariant-loop-edge l = FoundBelow (IsAgainst (map message_model l.contract.messages.items) l.contract.edges.items) l.edge-index (map finding_model l.found.items)
