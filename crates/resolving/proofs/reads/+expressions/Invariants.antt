use Rattle.tree.specs.Operators.{Or, And, Equal, Compare}
use Rattle.tree.specs.ExpressionTrees.{without_sign, conjunction_tree, equality_tree, equality_step_tree, relation_tree, relation_step_tree, sum_tree, factor_tree, unary_tree}
use Rattle.tree.specs.declared.expression.Conjunction as conjunctions
use Rattle.tree.specs.declared.expression.Disjunction as disjunctions
use Rattle.tree.specs.declared.expression.Equality as equalitys
use Rattle.tree.specs.declared.expression.Factors as factor_lists
use Rattle.tree.specs.declared.expression.Relation as relations
use Rattle.resolving.specs.Steps.{AddsReads}
use Rattle.resolving.proofs.FactorLemmas.{sequence_reads}
use Rattle.resolving.proofs.ReadLemmas.{chain_reads}
use Rattle.resolving.proofs.reads.+expressions.Given as goal

abbrev pub invariant-add_disjunction-each : goal.invariant-add_disjunction-each
invariant-add_disjunction-each l =
    AddsReads l.text l.locals (chain_reads l.text Or (without_sign conjunction_tree) (conjunction_tree (disjunctions.out-Disjunction l.disjunction).first) l.conjunction-items l.conjunction-index) l.fn.found.items l.found.items

abbrev pub invariant-add_conjunction-each : goal.invariant-add_conjunction-each
invariant-add_conjunction-each l =
    AddsReads l.text l.locals (chain_reads l.text And (without_sign equality_tree) (equality_tree (conjunctions.out-Conjunction l.conjunction).first) l.equality-items l.equality-index) l.fn.found.items l.found.items

abbrev pub invariant-add_equality-each : goal.invariant-add_equality-each
invariant-add_equality-each l =
    AddsReads l.text l.locals (chain_reads l.text Equal equality_step_tree (relation_tree (equalitys.out-Equality l.equality).first) l.step-items l.step-index) l.fn.found.items l.found.items

abbrev pub invariant-add_relation-each : goal.invariant-add_relation-each
invariant-add_relation-each l =
    AddsReads l.text l.locals (chain_reads l.text Compare relation_step_tree (sum_tree (relations.out-Relation l.relation).first) l.step-items l.step-index) l.fn.found.items l.found.items

abbrev pub invariant-add_factors-each : goal.invariant-add_factors-each
invariant-add_factors-each l =
    let sequence = factor_lists.out-Factors l.factors in
    AddsReads l.text l.locals (sequence_reads l.text (unary_tree sequence.first) (factor_tree sequence.second) l.factor-items l.factor-index) l.fn.found.items l.found.items
