use Rattle.std.proofs.Common.{ℕ, ◌<◌}
use Rattle.contracts.specs.Graphs.{groups}
use Rattle.contracts.specs.Searches.{IsIdle, IsKept, IsMet}
use Rattle.contracts.proofs.components.components_of.Given as goal

abbrev pub invariant-loop-start : goal.invariant-loop-start
invariant-loop-start l = record {
  kept : IsKept (groups l.graph) l.search;
  idle : IsIdle l.search;
  met : (v : ℕ) → v < l.start → IsMet l.search v;
}
