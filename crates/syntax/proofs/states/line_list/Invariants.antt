use Rattle.std.proofs.Common.{◌≡◌, ◌++◌, length, map}
use Rattle.std.specs.List.{flat_map}
use Rattle.tree.specs.Grammar.{line}
use Rattle.tree.specs.Trees.{path_tree}
use Rattle.syntax.proofs.states.line_list.Given as goal

abbrev pub invariant-each : goal.invariant-each
invariant-each l = l.fn.cursor ≡ flat_map line (map path_tree l.all.items) ++ l.cursor

abbrev pub decreases-each : goal.decreases-each
decreases-each l = length l.cursor
