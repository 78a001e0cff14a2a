use Rattle.std.proofs.Common.{◌≡◌, ◌++◌, length}
use Rattle.tree.specs.Grammar.{path}
use Rattle.syntax.proofs.states.path.Given as goal

abbrev pub invariant-each : goal.invariant-each
invariant-each l = l.fn.cursor ≡ path (record { first = l.first; others = l.others.items; target = l.target }) ++ l.cursor

abbrev pub decreases-each : goal.decreases-each
decreases-each l = length l.cursor
