use Rattle.std.proofs.Common.{◌≡◌, drop}
use Rattle.contracts.specs.Searches.{set_at_each}
use Rattle.contracts.proofs.components.write_each.Given as goal

abbrev pub invariant-loop-index : goal.invariant-loop-index
invariant-loop-index g l = set_at_each l.items (drop l.index-index l.indices) l.item ≡ set_at_each l.initial.items l.indices l.item
