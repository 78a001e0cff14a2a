use Rattle.std.proofs.Common.{◌≡◌, ◌++◌, length, map}
use Rattle.std.specs.List.{flat_map}
use Rattle.tree.specs.Grammar.{member}
use Rattle.syntax.specs.Reading.{Stops, last_at}
use Rattle.syntax.specs.States.{member_at}
use Rattle.tree.specs.Trees.{member_tree}
use Rattle.syntax.proofs.contracts.members.Given as goal

abbrev pub invariant-each : goal.invariant-each
invariant-each l = record {
  read : l.fn.cursor ≡ flat_map member (map member_tree l.all.items) ++ l.cursor;
  ended : Stops (last_at member_at (map member_tree l.all.items)) l.cursor;
}

abbrev pub decreases-each : goal.decreases-each
decreases-each l = length l.cursor
