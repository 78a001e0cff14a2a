use Rattle.tree.specs.Operators.{Or, And, Equal, Compare}
use Rattle.tree.specs.ExpressionTrees.{without_sign, disjunction_tree, conjunction_tree, equality_tree, equality_step_tree, relation_tree, relation_step_tree, sum_tree, factors_tree, factor_tree, unary_tree, prefixed_tree, atom_tree}
use Rattle.tree.specs.declared.expression.Conjunction as conjunctions
use Rattle.tree.specs.declared.expression.Disjunction as disjunctions
use Rattle.tree.specs.declared.expression.Equality as equalitys
use Rattle.tree.specs.declared.expression.Factor as factors
use Rattle.tree.specs.declared.expression.Factors as factor_lists
use Rattle.tree.specs.declared.expression.Prefixed as prefixeds
use Rattle.tree.specs.declared.expression.Relation as relations
use Rattle.names.specs.Shapes.{shape}
use Rattle.names.specs.Terms.{first_term, with_factor}
use Rattle.names.proofs.ExpressionNames.{judges_more, judges_all, judges_step, judges_signed}
use Rattle.tree.proofs.ExpressionTwins.{disjunction_model, conjunction_model, equality_model, equality_step_model, relation_model, relation_step_model, prefixed_model, factor_model, factors_model}
use Rattle.names.proofs.TermLemmas.{factors_to, judges_first, judges_times, judges_next, judges_factor, judges_factors}
use Rattle.names.proofs.expressions.+expressions.Goals as goal

pub judge_disjunction-each-preserved : goal.judge_disjunction-each-preserved
judge_disjunction-each-preserved t c =
    judges_more Or (without_sign conjunction_tree) (shape (conjunction_tree (disjunctions.out-Disjunction c.args.disjunction.now).first)) c.deref-conjunction-items.result.now c.each.conjunction-index c.conjunction-item.result c.each-test.true c.conjunction-item.is
    c.each.invariant c.in_ok-right.ensures c.in_ok-left-2.ensures

pub judge_disjunction-returns : goal.judge_disjunction-returns
judge_disjunction-returns t c =
    let e = c.args.disjunction.now in
    judges_all Or (without_sign conjunction_tree) (conjunction_tree (disjunctions.out-Disjunction e).first) c.deref-conjunction-items.result.now (disjunctions.out-Disjunction e).others.items c.each.conjunction-index (disjunction_tree e) c.each-test.false c.deref-conjunction-items.ensures.value (disjunction_model e) c.each.invariant

pub judge_conjunction-each-preserved : goal.judge_conjunction-each-preserved
judge_conjunction-each-preserved t c =
    judges_more And (without_sign equality_tree) (shape (equality_tree (conjunctions.out-Conjunction c.args.conjunction.now).first)) c.deref-equality-items.result.now c.each.equality-index c.equality-item.result c.each-test.true c.equality-item.is
    c.each.invariant c.in_ok-right.ensures c.in_ok-left-2.ensures

pub judge_conjunction-returns : goal.judge_conjunction-returns
judge_conjunction-returns t c =
    let e = c.args.conjunction.now in
    judges_all And (without_sign equality_tree) (equality_tree (conjunctions.out-Conjunction e).first) c.deref-equality-items.result.now (conjunctions.out-Conjunction e).others.items c.each.equality-index (conjunction_tree e) c.each-test.false c.deref-equality-items.ensures.value (conjunction_model e) c.each.invariant

pub judge_equality-each-preserved : goal.judge_equality-each-preserved
judge_equality-each-preserved t c =
    judges_more Equal equality_step_tree (shape (relation_tree (equalitys.out-Equality c.args.equality.now).first)) c.deref-step-items.result.now c.each.step-index c.step-item.result c.each-test.true c.step-item.is
    c.each.invariant (judges_step Equal (equality_step_tree c.step-item.result) _ (equality_step_model c.step-item.result) c.in_ok-right.ensures) c.in_ok-left-2.ensures

pub judge_equality-returns : goal.judge_equality-returns
judge_equality-returns t c =
    let e = c.args.equality.now in
    judges_all Equal equality_step_tree (relation_tree (equalitys.out-Equality e).first) c.deref-step-items.result.now (equalitys.out-Equality e).others.items c.each.step-index (equality_tree e) c.each-test.false c.deref-step-items.ensures.value (equality_model e) c.each.invariant

pub judge_relation-each-preserved : goal.judge_relation-each-preserved
judge_relation-each-preserved t c =
    judges_more Compare relation_step_tree (shape (sum_tree (relations.out-Relation c.args.relation.now).first)) c.deref-step-items.result.now c.each.step-index c.step-item.result c.each-test.true c.step-item.is
    c.each.invariant (judges_step Compare (relation_step_tree c.step-item.result) _ (relation_step_model c.step-item.result) c.in_ok-right.ensures) c.in_ok-left-2.ensures

pub judge_relation-returns : goal.judge_relation-returns
judge_relation-returns t c =
    let e = c.args.relation.now in
    judges_all Compare relation_step_tree (sum_tree (relations.out-Relation e).first) c.deref-step-items.result.now (relations.out-Relation e).others.items c.each.step-index (relation_tree e) c.each-test.false c.deref-step-items.ensures.value (relation_model e) c.each.invariant

pub judge_factors-each-init : goal.judge_factors-each-init
judge_factors-each-init t c =
    let sequence = factor_lists.out-Factors c.args.factors.now in
    c.in_ok-judge_factor.ensures (first_term (shape (unary_tree sequence.first))) c.args.found.now.items (judges_first (shape (unary_tree sequence.first)) c.from_first-terms.ensures c.in_ok-first.ensures)

pub judge_factors-each-preserved : goal.judge_factors-each-preserved
judge_factors-each-preserved t c =
    let sequence = factor_lists.out-Factors c.args.factors.now in
    let before = with_factor (first_term (shape (unary_tree sequence.first))) (factor_tree sequence.second) in
    judges_factor factor_tree before c.deref-factor-items.result.now c.each.factor-index c.factor-item.result c.each-test.true c.factor-item.is
    (c.in_ok-judge_factor-2.ensures (factors_to factor_tree before c.deref-factor-items.result.now c.each.factor-index) c.args.found.now.items c.each.invariant)

pub judge_factors-returns : goal.judge_factors-returns
judge_factors-returns t c =
    let sequence = factor_lists.out-Factors c.args.factors.now in
    judges_factors factor_tree (unary_tree sequence.first) (factor_tree sequence.second) c.deref-factor-items.result.now sequence.others.items c.each.factor-index (factors_tree c.args.factors.now) c.joined_terms.result _ c.each-test.false c.deref-factor-items.ensures.value
    (factors_model c.args.factors.now) c.each.invariant c.joined_terms.ensures

pub judge_factor-returns-in_ok-terms-in-Times : goal.judge_factor-returns-in_ok-terms-in-Times
judge_factor-returns-in_ok-terms-in-Times t c = λ shapes start.
    let factor = factors.out-Factor c.args.factor.now in
    judges_times shapes (factor_tree c.args.factor.now) factor.operator (unary_tree factor.unary) (factor_model c.args.factor.now) c.in-Times.is c.in_ok-right-in-Times.ensures c.in_ok-terms-in-Times.ensures

pub judge_factor-returns-in_ok-terms-in-Sum : goal.judge_factor-returns-in_ok-terms-in-Sum
judge_factor-returns-in_ok-terms-in-Sum t c = λ shapes start.
    let factor = factors.out-Factor c.args.factor.now in
    judges_next shapes (factor_tree c.args.factor.now) factor.operator c.in-Sum.field-0 (unary_tree factor.unary) (factor_model c.args.factor.now) c.in-Sum.is c.in_ok-joined_terms-in-Sum.ensures c.in_ok-terms-in-Sum.ensures

pub judge_prefixed-returns : goal.judge_prefixed-returns
judge_prefixed-returns t c =
    let u = c.args.prefixed.now in
    judges_signed c.deref.result.now (prefixeds.out-Prefixed u).prefixes.items (atom_tree (prefixeds.out-Prefixed u).atom) (prefixed_tree u) c.judge_signs.result _ c.deref.ensures.value (prefixed_model u) c.in_ok-atom.ensures c.judge_signs.ensures
