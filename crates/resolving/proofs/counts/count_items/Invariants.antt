use Rattle.std.proofs.Common.{◌≡◌, map}
use Rattle.tree.specs.Trees.{item_tree}
use Rattle.resolving.specs.Counts.{before}
use Rattle.resolving.proofs.CountLemmas.{counted}
use Rattle.resolving.proofs.counts.count_items.Given as goal

abbrev pub invariant-loop-item : goal.invariant-loop-item
invariant-loop-item l = record { items : l.before.items ≡ counted l.items l.item-index; here : l.so_far ≡ before (map item_tree l.items) l.item-index }
