use Rattle.std.proofs.Common.{◌≡◌, ◌++◌, ◌*◌, ◌+◌, ◌≤◌, length, map}
use Rattle.std.specs.List.{flat_map}
use Rattle.syntax.specs.Reading.{Stops, last_at}
use Rattle.tree.specs.Operators.{Or, And, Equal, Compare}
use Rattle.tree.specs.Expressions.{step}
use Rattle.syntax.specs.ExpressionReads.{step_at, factor_at}
use Rattle.tree.specs.Factors.{factor}
use Rattle.tree.specs.ExpressionTrees.{without_sign, conjunction_tree, equality_tree, equality_step_tree, relation_step_tree, factor_tree}
use Rattle.syntax.proofs.expressions.+expression.Given as goal

abbrev pub decreases-and_equality : goal.decreases-and_equality
decreases-and_equality l = 10 * length l.cursor.now

abbrev pub decreases-conjunction_from : goal.decreases-conjunction_from
decreases-conjunction_from l = 10 * length l.cursor.now + 6

abbrev pub decreases-conjunctions : goal.decreases-conjunctions
decreases-conjunctions l = 10 * length l.cursor.now + 1

abbrev pub decreases-disjunction_from : goal.decreases-disjunction_from
decreases-disjunction_from l = 10 * length l.cursor.now + 7

abbrev pub decreases-equalities : goal.decreases-equalities
decreases-equalities l = 10 * length l.cursor.now + 1

abbrev pub decreases-equality_from : goal.decreases-equality_from
decreases-equality_from l = 10 * length l.cursor.now + 5

abbrev pub decreases-equality_step : goal.decreases-equality_step
decreases-equality_step l = 10 * length l.cursor.now

abbrev pub decreases-equality_steps : goal.decreases-equality_steps
decreases-equality_steps l = 10 * length l.cursor.now + 1

abbrev pub decreases-expression_from : goal.decreases-expression_from
decreases-expression_from l = 10 * length l.cursor.now + 8

abbrev pub decreases-factors : goal.decreases-factors
decreases-factors l = 10 * length l.cursor.now + 1

abbrev pub decreases-or_conjunction : goal.decreases-or_conjunction
decreases-or_conjunction l = 10 * length l.cursor.now

abbrev pub decreases-read_atom : goal.decreases-read_atom
decreases-read_atom l = 10 * length l.cursor.now + 1

abbrev pub decreases-read_expression : goal.decreases-read_expression
decreases-read_expression l = 10 * length l.cursor.now + 9

abbrev pub decreases-read_factor : goal.decreases-read_factor
decreases-read_factor l = 10 * length l.cursor.now

abbrev pub decreases-read_index : goal.decreases-read_index
decreases-read_index l = 10 * length l.cursor.now

abbrev pub decreases-read_parens : goal.decreases-read_parens
decreases-read_parens l = 10 * length l.cursor.now

abbrev pub decreases-read_sum : goal.decreases-read_sum
decreases-read_sum l = 10 * length l.cursor.now + 4

abbrev pub decreases-read_target : goal.decreases-read_target
decreases-read_target l = 10 * length l.cursor.now

abbrev pub decreases-read_unary : goal.decreases-read_unary
decreases-read_unary l = 10 * length l.cursor.now + 2

abbrev pub decreases-relation_from : goal.decreases-relation_from
decreases-relation_from l = 10 * length l.cursor.now + 4

abbrev pub decreases-relation_step : goal.decreases-relation_step
decreases-relation_step l = 10 * length l.cursor.now

abbrev pub decreases-relation_steps : goal.decreases-relation_steps
decreases-relation_steps l = 10 * length l.cursor.now + 1

abbrev pub decreases-sum_from : goal.decreases-sum_from
decreases-sum_from l = 10 * length l.cursor.now + 3

abbrev pub decreases-target_from : goal.decreases-target_from
decreases-target_from l = 10 * length l.cursor.now + 1

abbrev pub invariant-conjunctions-each : goal.invariant-conjunctions-each
invariant-conjunctions-each l = record {
  read : l.fn.cursor ≡ flat_map (step Or) (map (without_sign conjunction_tree) l.all.items) ++ l.cursor;
  ended : Stops (last_at (step_at Or) (map (without_sign conjunction_tree) l.all.items)) l.cursor;
  shorter : length l.cursor ≤ length l.fn.cursor;
}

abbrev pub decreases-conjunctions-each : goal.decreases-conjunctions-each
decreases-conjunctions-each l = length l.cursor

abbrev pub invariant-equalities-each : goal.invariant-equalities-each
invariant-equalities-each l = record {
  read : l.fn.cursor ≡ flat_map (step And) (map (without_sign equality_tree) l.all.items) ++ l.cursor;
  ended : Stops (last_at (step_at And) (map (without_sign equality_tree) l.all.items)) l.cursor;
  shorter : length l.cursor ≤ length l.fn.cursor;
}

abbrev pub decreases-equalities-each : goal.decreases-equalities-each
decreases-equalities-each l = length l.cursor

abbrev pub invariant-equality_steps-each : goal.invariant-equality_steps-each
invariant-equality_steps-each l = record {
  read : l.fn.cursor ≡ flat_map (step Equal) (map equality_step_tree l.all.items) ++ l.cursor;
  ended : Stops (last_at (step_at Equal) (map equality_step_tree l.all.items)) l.cursor;
  shorter : length l.cursor ≤ length l.fn.cursor;
}

abbrev pub decreases-equality_steps-each : goal.decreases-equality_steps-each
decreases-equality_steps-each l = length l.cursor

abbrev pub invariant-relation_steps-each : goal.invariant-relation_steps-each
invariant-relation_steps-each l = record {
  read : l.fn.cursor ≡ flat_map (step Compare) (map relation_step_tree l.all.items) ++ l.cursor;
  ended : Stops (last_at (step_at Compare) (map relation_step_tree l.all.items)) l.cursor;
  shorter : length l.cursor ≤ length l.fn.cursor;
}

abbrev pub decreases-relation_steps-each : goal.decreases-relation_steps-each
decreases-relation_steps-each l = length l.cursor

abbrev pub invariant-factors-each : goal.invariant-factors-each
invariant-factors-each l = record {
  read : l.fn.cursor ≡ flat_map factor (map factor_tree l.all.items) ++ l.cursor;
  ended : Stops (last_at factor_at (map factor_tree l.all.items)) l.cursor;
  shorter : length l.cursor ≤ length l.fn.cursor;
}

abbrev pub decreases-factors-each : goal.decreases-factors-each
decreases-factors-each l = length l.cursor
