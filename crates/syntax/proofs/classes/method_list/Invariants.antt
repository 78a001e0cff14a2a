use Rattle.std.proofs.Common.{◌≡◌, ◌++◌, length, map}
use Rattle.std.specs.List.{flat_map}
use Rattle.tree.specs.Trees.{method_tree}
use Rattle.tree.specs.Programs.{method}
use Rattle.syntax.proofs.classes.method_list.Given as goal

abbrev pub invariant-each : goal.invariant-each
invariant-each l = l.fn.cursor ≡ flat_map method (map method_tree l.all.items) ++ l.cursor

abbrev pub decreases-each : goal.decreases-each
decreases-each l = length l.cursor
