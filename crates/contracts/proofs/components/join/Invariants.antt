use Rattle.std.proofs.Common.{ℕ, ◌≤◌, length}
use Rattle.std.specs.Prelude.{Contains}
use Rattle.contracts.specs.Searches.{AreRising}
use Rattle.contracts.proofs.components.join.Given as goal

abbrev pub invariant-bounds : goal.invariant-bounds
invariant-bounds l = record {
  right : (b : ℕ) → Contains l.bounds.items b → Contains l.initial.bounds.items b;
  all : (b : ℕ) → Contains l.initial.bounds.items b → b ≤ l.index → Contains l.bounds.items b;
  rise : AreRising l.bounds.items;
  fewer : length l.bounds.items ≤ length l.initial.bounds.items;
}

abbrev pub decreases-bounds : goal.decreases-bounds
decreases-bounds l = length l.bounds.items
