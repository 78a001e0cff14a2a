use Rattle.std.proofs.Common.{◌≡◌, ◌++◌, length, map}
use Rattle.tree.specs.Programs.{program}
use Rattle.tree.specs.Trees.{item_tree}
use Rattle.syntax.proofs.items.items.Given as goal

abbrev pub invariant-each : goal.invariant-each
invariant-each l = l.fn.cursor ≡ program (map item_tree l.all.items) ++ l.cursor

abbrev pub decreases-each : goal.decreases-each
decreases-each l = length l.cursor
