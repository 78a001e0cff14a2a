use Rattle.std.proofs.Common.{refl, ap}
use Rattle.tree.specs.Operators.{Or, And, Equal, Compare}
use Rattle.tree.specs.Expressions.{StepOf}
use Rattle.tree.specs.Factors.{FactorTree}
use Rattle.tree.specs.ExpressionTrees.{without_sign, disjunction_tree, conjunction_tree, equality_tree, equality_step_tree, relation_tree, relation_step_tree, sum_tree, factors_tree, factor_tree, unary_tree}
use Rattle.tree.specs.declared.expression.Conjunction as conjunctions
use Rattle.tree.specs.declared.expression.Disjunction as disjunctions
use Rattle.tree.specs.declared.expression.Equality as equalitys
use Rattle.tree.specs.declared.expression.EqualityStep as equality_steps
use Rattle.tree.specs.declared.expression.Factor as factors
use Rattle.tree.specs.declared.expression.Factors as factor_lists
use Rattle.tree.specs.declared.expression.Relation as relations
use Rattle.tree.specs.declared.expression.RelationStep as relation_steps
use Rattle.tree.proofs.ExpressionTwins.{disjunction_model, conjunction_model, equality_model, equality_step_model, relation_model, relation_step_model, factors_model, factor_model}
use Rattle.resolving.proofs.FactorLemmas.{sequence_first, sequence_more, sequence_all}
use Rattle.resolving.proofs.ReadLemmas.{reads_first, reads_more, reads_all}
use Rattle.resolving.proofs.reads.+expressions.Goals as goal

pub add_disjunction-each-init : goal.add_disjunction-each-init
add_disjunction-each-init t c = reads_first c.args.text.now Or (without_sign conjunction_tree) (conjunction_tree (disjunctions.out-Disjunction c.args.disjunction.now).first) c.deref-conjunction-items.result.now c.in_ok-add_conjunction.ensures

pub add_disjunction-each-preserved : goal.add_disjunction-each-preserved
add_disjunction-each-preserved t c =
    reads_more c.args.text.now Or (without_sign conjunction_tree) (conjunction_tree (disjunctions.out-Disjunction c.args.disjunction.now).first) c.deref-conjunction-items.result.now c.each.conjunction-index c.conjunction-item.result (conjunction_tree c.conjunction-item.result) c.each-test.true c.conjunction-item.is refl c.each.invariant c.in_ok-add_conjunction-2.ensures

pub add_disjunction-returns : goal.add_disjunction-returns
add_disjunction-returns t c =
    let e = c.args.disjunction.now in
    reads_all c.args.text.now Or (without_sign conjunction_tree) (conjunction_tree (disjunctions.out-Disjunction e).first) c.deref-conjunction-items.result.now (disjunctions.out-Disjunction e).others.items c.each.conjunction-index (disjunction_tree e) c.each-test.false c.deref-conjunction-items.ensures.value (disjunction_model e) c.each.invariant

pub add_conjunction-each-init : goal.add_conjunction-each-init
add_conjunction-each-init t c = reads_first c.args.text.now And (without_sign equality_tree) (equality_tree (conjunctions.out-Conjunction c.args.conjunction.now).first) c.deref-equality-items.result.now c.in_ok-add_equality.ensures

pub add_conjunction-each-preserved : goal.add_conjunction-each-preserved
add_conjunction-each-preserved t c =
    reads_more c.args.text.now And (without_sign equality_tree) (equality_tree (conjunctions.out-Conjunction c.args.conjunction.now).first) c.deref-equality-items.result.now c.each.equality-index c.equality-item.result (equality_tree c.equality-item.result) c.each-test.true c.equality-item.is refl c.each.invariant c.in_ok-add_equality-2.ensures

pub add_conjunction-returns : goal.add_conjunction-returns
add_conjunction-returns t c =
    let e = c.args.conjunction.now in
    reads_all c.args.text.now And (without_sign equality_tree) (equality_tree (conjunctions.out-Conjunction e).first) c.deref-equality-items.result.now (conjunctions.out-Conjunction e).others.items c.each.equality-index (conjunction_tree e) c.each-test.false c.deref-equality-items.ensures.value (conjunction_model e) c.each.invariant

pub add_equality-each-init : goal.add_equality-each-init
add_equality-each-init t c = reads_first c.args.text.now Equal equality_step_tree (relation_tree (equalitys.out-Equality c.args.equality.now).first) c.deref-step-items.result.now c.in_ok-add_relation.ensures

pub add_equality-each-preserved : goal.add_equality-each-preserved
add_equality-each-preserved t c =
    reads_more c.args.text.now Equal equality_step_tree (relation_tree (equalitys.out-Equality c.args.equality.now).first) c.deref-step-items.result.now c.each.step-index c.step-item.result (relation_tree (equality_steps.out-EqualityStep c.step-item.result).relation) c.each-test.true c.step-item.is (ap (λ (p : StepOf Equal). p.1) (equality_step_model c.step-item.result)) c.each.invariant c.in_ok-add_relation-2.ensures

pub add_equality-returns : goal.add_equality-returns
add_equality-returns t c =
    let e = c.args.equality.now in
    reads_all c.args.text.now Equal equality_step_tree (relation_tree (equalitys.out-Equality e).first) c.deref-step-items.result.now (equalitys.out-Equality e).others.items c.each.step-index (equality_tree e) c.each-test.false c.deref-step-items.ensures.value (equality_model e) c.each.invariant

pub add_relation-each-init : goal.add_relation-each-init
add_relation-each-init t c = reads_first c.args.text.now Compare relation_step_tree (sum_tree (relations.out-Relation c.args.relation.now).first) c.deref-step-items.result.now c.in_ok-add_sum.ensures

pub add_relation-each-preserved : goal.add_relation-each-preserved
add_relation-each-preserved t c =
    reads_more c.args.text.now Compare relation_step_tree (sum_tree (relations.out-Relation c.args.relation.now).first) c.deref-step-items.result.now c.each.step-index c.step-item.result (sum_tree (relation_steps.out-RelationStep c.step-item.result).sum) c.each-test.true c.step-item.is (ap (λ (p : StepOf Compare). p.1) (relation_step_model c.step-item.result)) c.each.invariant c.in_ok-add_sum-2.ensures

pub add_relation-returns : goal.add_relation-returns
add_relation-returns t c =
    let e = c.args.relation.now in
    reads_all c.args.text.now Compare relation_step_tree (sum_tree (relations.out-Relation e).first) c.deref-step-items.result.now (relations.out-Relation e).others.items c.each.step-index (relation_tree e) c.each-test.false c.deref-step-items.ensures.value (relation_model e) c.each.invariant

pub add_factors-each-init : goal.add_factors-each-init
add_factors-each-init t c =
    let sequence = factor_lists.out-Factors c.args.factors.now in
    sequence_first c.args.text.now (unary_tree sequence.first) (unary_tree (factors.out-Factor sequence.second).unary) (factor_tree sequence.second) c.deref-factor-items.result.now (ap (λ (f : FactorTree). f.1) (factor_model sequence.second)) c.in_ok-add_unary.ensures c.in_ok-add_unary-2.ensures

pub add_factors-each-preserved : goal.add_factors-each-preserved
add_factors-each-preserved t c =
    let sequence = factor_lists.out-Factors c.args.factors.now in
    sequence_more c.args.text.now (unary_tree sequence.first) (unary_tree (factors.out-Factor c.factor-item.result).unary) (factor_tree sequence.second) c.deref-factor-items.result.now c.each.factor-index c.factor-item.result c.each-test.true c.factor-item.is (ap (λ (f : FactorTree). f.1) (factor_model c.factor-item.result)) c.each.invariant c.in_ok-add_unary-3.ensures

pub add_factors-returns : goal.add_factors-returns
add_factors-returns t c =
    let sequence = factor_lists.out-Factors c.args.factors.now in
    sequence_all c.args.text.now (unary_tree sequence.first) (factor_tree sequence.second) c.deref-factor-items.result.now sequence.others.items c.each.factor-index (factors_tree c.args.factors.now) c.each-test.false c.deref-factor-items.ensures.value (factors_model c.args.factors.now) c.each.invariant
