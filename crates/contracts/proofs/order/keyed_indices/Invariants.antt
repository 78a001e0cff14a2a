use Rattle.contracts.specs.Orders.{AreEntries}
use Rattle.contracts.proofs.order.keyed_indices.Given as goal

abbrev pub invariant-loop-i : goal.invariant-loop-i
invariant-loop-i l = AreEntries l.edges l.i l.entries.items
