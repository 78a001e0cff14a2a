use Rattle.std.proofs.Common.{◌≡◌, ◌<◌, ◌≤◌, ℕ, get_or, length, take}
use Rattle.contracts.specs.Chains.{IsFirstArc}
use Rattle.contracts.proofs.ChainLemmas.{AreFilled}
use Rattle.contracts.proofs.grouping.groups_of.Given as goal

abbrev pub invariant-loop-vertex : goal.invariant-loop-vertex
invariant-loop-vertex l = record {
  filled : AreFilled l.arcs l.vertex l.items.items (take l.vertex l.ends.items);
  long : length l.ends.items ≡ l.count;
  firsts : (v : ℕ) → l.vertex ≤ v → v < l.count → IsFirstArc l.arcs v 0 (get_or l.ends.items v 0);
}
