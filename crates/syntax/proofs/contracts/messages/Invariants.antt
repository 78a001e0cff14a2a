use Rattle.std.proofs.Common.{◌≡◌, ◌++◌, length, map}
use Rattle.std.specs.List.{flat_map}
use Rattle.tree.specs.Grammar.{message}
use Rattle.tree.specs.Trees.{message_tree}
use Rattle.syntax.proofs.contracts.messages.Given as goal

abbrev pub invariant-each : goal.invariant-each
invariant-each l = l.fn.cursor ≡ flat_map message (map message_tree l.all.items) ++ l.cursor

abbrev pub decreases-each : goal.decreases-each
decreases-each l = length l.cursor
