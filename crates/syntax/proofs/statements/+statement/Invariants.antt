use Rattle.std.proofs.Common.{◌≡◌, ◌++◌, ◌*◌, ◌+◌, ◌≤◌, length, map}
use Rattle.std.specs.List.{flat_map}
use Rattle.source.specs.declared.kind.Kind.TheVariants as kind
use Rattle.syntax.specs.Reading.{Stops, last_at}
use Rattle.tree.specs.StatementTrees.{statement_tree, case_tree, test_tree}
use Rattle.tree.specs.StatementGrammar.{statement, case, test}
use Rattle.syntax.specs.StatementFirsts.{statement_at, case_at}
use Rattle.syntax.proofs.StatementCycle.{else_if}
use Rattle.syntax.proofs.statements.+statement.Given as goal

abbrev pub decreases-statements : goal.decreases-statements
decreases-statements l = 4 * length l.cursor.now + 3

abbrev pub decreases-statement : goal.decreases-statement
decreases-statement l = 4 * length l.cursor.now + 2

abbrev pub decreases-if_statement : goal.decreases-if_statement
decreases-if_statement l = 4 * length l.cursor.now + 1

abbrev pub decreases-switch : goal.decreases-switch
decreases-switch l = 4 * length l.cursor.now + 1

abbrev pub decreases-cases : goal.decreases-cases
decreases-cases l = 4 * length l.cursor.now + 1

abbrev pub decreases-test : goal.decreases-test
decreases-test l = 4 * length l.cursor.now

abbrev pub decreases-block : goal.decreases-block
decreases-block l = 4 * length l.cursor.now

abbrev pub decreases-case : goal.decreases-case
decreases-case l = 4 * length l.cursor.now

abbrev pub invariant-statements-each : goal.invariant-statements-each
invariant-statements-each l = record {
  read : l.fn.cursor ≡ flat_map statement (map statement_tree l.all.items) ++ l.cursor;
  ended : Stops (last_at statement_at (map statement_tree l.all.items)) l.cursor;
  shorter : length l.cursor ≤ length l.fn.cursor;
}

abbrev pub decreases-statements-each : goal.decreases-statements-each
decreases-statements-each l = length l.cursor

abbrev pub invariant-if_statement-more : goal.invariant-if_statement-more
invariant-if_statement-more l = record {
  read : l.fn.cursor ≡ test kind.If (test_tree l.first) ++ (flat_map else_if (map test_tree l.others.items) ++ l.cursor);
  shorter : length l.cursor ≤ length l.fn.cursor;
}

abbrev pub decreases-if_statement-more : goal.decreases-if_statement-more
decreases-if_statement-more l = length l.cursor

abbrev pub invariant-cases-each : goal.invariant-cases-each
invariant-cases-each l = record {
  read : l.fn.cursor ≡ flat_map case (map case_tree l.all.items) ++ l.cursor;
  ended : Stops (last_at case_at (map case_tree l.all.items)) l.cursor;
  shorter : length l.cursor ≤ length l.fn.cursor;
}

abbrev pub decreases-cases-each : goal.decreases-cases-each
decreases-cases-each l = length l.cursor
