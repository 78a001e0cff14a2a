use Rattle.std.proofs.Common.{◌≡◌, ◌++◌, length}
use Rattle.std.specs.List.{flat_map}
use Rattle.tree.specs.Operators.{prefix}
use Rattle.syntax.proofs.expressions.prefixes.Given as goal

abbrev pub invariant-each : goal.invariant-each
invariant-each l = l.fn.cursor ≡ flat_map prefix l.all.items ++ l.cursor

abbrev pub decreases-each : goal.decreases-each
decreases-each l = length l.cursor
