use Rattle.tree.specs.Operators.{Or, And, Equal, Compare}
use Rattle.tree.specs.ExpressionTrees.{without_sign, conjunction_tree, equality_tree, equality_step_tree, relation_tree, relation_step_tree, sum_tree, factor_tree, unary_tree}
use Rattle.tree.specs.declared.expression.Conjunction as conjunctions
use Rattle.tree.specs.declared.expression.Disjunction as disjunctions
use Rattle.tree.specs.declared.expression.Equality as equalitys
use Rattle.tree.specs.declared.expression.Factors as factor_lists
use Rattle.tree.specs.declared.expression.Relation as relations
use Rattle.names.specs.Operands.{Judges}
use Rattle.names.specs.Shapes.{shape}
use Rattle.names.specs.Terms.{JudgesTerms, first_term, with_factor}
use Rattle.names.proofs.ExpressionNames.{chain_to}
use Rattle.names.proofs.TermLemmas.{factors_to}
use Rattle.names.proofs.expressions.+expressions.Given as goal

abbrev pub invariant-judge_disjunction-each : goal.invariant-judge_disjunction-each
invariant-judge_disjunction-each l =
    Judges l.scope l.variables (chain_to Or (without_sign conjunction_tree) (shape (conjunction_tree (disjunctions.out-Disjunction l.disjunction).first)) l.conjunction-items l.conjunction-index) l.fn.found.items l.found.items l.left

abbrev pub invariant-judge_conjunction-each : goal.invariant-judge_conjunction-each
invariant-judge_conjunction-each l =
    Judges l.scope l.variables (chain_to And (without_sign equality_tree) (shape (equality_tree (conjunctions.out-Conjunction l.conjunction).first)) l.equality-items l.equality-index) l.fn.found.items l.found.items l.left

abbrev pub invariant-judge_equality-each : goal.invariant-judge_equality-each
invariant-judge_equality-each l =
    Judges l.scope l.variables (chain_to Equal equality_step_tree (shape (relation_tree (equalitys.out-Equality l.equality).first)) l.step-items l.step-index) l.fn.found.items l.found.items l.left

abbrev pub invariant-judge_relation-each : goal.invariant-judge_relation-each
invariant-judge_relation-each l =
    Judges l.scope l.variables (chain_to Compare relation_step_tree (shape (sum_tree (relations.out-Relation l.relation).first)) l.step-items l.step-index) l.fn.found.items l.found.items l.left

abbrev pub invariant-judge_factors-each : goal.invariant-judge_factors-each
invariant-judge_factors-each l =
    let sequence = factor_lists.out-Factors l.factors in
    JudgesTerms l.scope l.variables (factors_to factor_tree (with_factor (first_term (shape (unary_tree sequence.first))) (factor_tree sequence.second)) l.factor-items l.factor-index) l.fn.found.items l.found.items l.terms
