use Rattle.std.proofs.Common.{map}
use Rattle.contracts.specs.Conditions.{finding_model}
use Rattle.contracts.specs.Found.{FoundBelow}
use Rattle.contracts.specs.Parts.{message_model}
use Rattle.contracts.proofs.ConditionLemmas.{TwiceAt}
use Rattle.contracts.proofs.conditions.twice_in_states.Given as goal

abbrev pub invariant-loop-at : goal.invariant-loop-at
invariant-loop-at l = FoundBelow (TwiceAt (map message_model l.contract.messages.items) l.contract.edges.items l.order) l.at (map finding_model l.found.items)
