use Rattle.std.proofs.Common.{◌≡◌, ◌<◌, ◌≤◌, ℕ, get_or, false}
use Rattle.std.specs.Prelude.{◌⊎◌}
use Rattle.contracts.specs.Graphs.{height_at}
use Rattle.contracts.specs.Reached.{counted_height}
use Rattle.contracts.proofs.bounds.tallest_of.Given as goal

abbrev pub invariant-loop-v : goal.invariant-loop-v
invariant-loop-v l = record {
  most : (v : ℕ) → v < l.v → counted_height (height_at l.heights v) (get_or l.reached v false) ≤ l.most;
  some : (l.most ≡ 0) ⊎ ((v : ℕ) × (v < l.v) × (counted_height (height_at l.heights v) (get_or l.reached v false) ≡ l.most));
}
