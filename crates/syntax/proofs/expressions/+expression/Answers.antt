use Rattle.std.proofs.Common.{map, [], sym, ap, ◌∙◌, refl, arith, subst}
use Rattle.std.specs.List.{flat_map}
use Rattle.std.proofs.lemmas.Bool.{iff_false}
use Rattle.std.proofs.lemmas.Grind.{common_steps}
use Rattle.source.specs.declared.kind.Kind.TheVariants as kind
use Rattle.tree.specs.Spelling.{parens}
use Rattle.syntax.specs.Reading.{never, Reads, Fails}
use Rattle.tree.specs.Operators.{Or, And, Equal, Compare, Add, Single, Joined}
use Rattle.syntax.specs.OperatorReads.{joins, joins_factors, behind_sum, opens_prefix}
use Rattle.tree.specs.Expressions.{Number, True, False, level, expression, step, atom, target}
use Rattle.syntax.specs.ExpressionReads.{level_on, level_at, step_at, steps_end, factor_at, factors_end, atom_at, target_at, target_on}
use Rattle.tree.specs.Factors.{factor}
use Rattle.tree.specs.ExpressionTrees.{expression_tree, disjunction_tree, conjunction_tree, equality_tree, equality_step_tree, relation_tree, relation_step_tree, sum_tree, factor_tree, factors_tree, unary_tree, prefixed_tree, atom_tree, target_tree, without_sign}
use Rattle.syntax.proofs.pieces.Exits.{exits}
use Rattle.syntax.proofs.pieces.KindLemmas.{kind_leads, test_leads, test_stops}
use Rattle.syntax.proofs.pieces.Enclosed.{parens_open_fails, parens_fails, parens_close_fails, brackets_open_fails, brackets_fails, brackets_close_fails}
use Rattle.syntax.proofs.AtomRules.{in_parens, in_brackets, index, target_form, parens_form, number_form, number_leads}
use Rattle.syntax.proofs.AloneRules.{summed_is_read}
use Rattle.syntax.proofs.pieces.Repeats.{last_read}
use Rattle.syntax.proofs.FactorRules.{factor_mark_fails, factor_unary_fails, factor_fails, second_fails, other_factors_fail, factors_are_read, unary_is_sum}
use Rattle.syntax.proofs.ExpressionFails.{first_fails, others_fail, unary_fails, mark_fails, behind_fails, step_fails, chain_is_read, expression_piece, prefixes_fail, atom_fails, variable_fails, dotted_fails, indexed_fails, unary_is_read, step_tail, atom_is_read}
use Rattle.tree.proofs.ExpressionTwins.{of_factors}
use Rattle.syntax.proofs.TreeLemmas.{summed_made, disjunction_made, conjunction_made, equality_made, relation_made, termed_made, factors_made, plain_made, prefixed_made, prefixed_parts, number_made, true_made, false_made}
use Rattle.syntax.proofs.pieces.Pieces.{wide_fails, stops_never}
use Rattle.syntax.proofs.pieces.Choices.{form_fails}
use Rattle.syntax.proofs.expressions.+expression.Goals as goal

pub expression_from-returns-in_err-sum-clause-read : goal.expression_from-returns-in_err-sum-clause-read
expression_from-returns-in_err-sum-clause-read t c = exits expression_tree level (level_on (Joined Or)) level_at _ _ _ _ _ c.from_residual.ensures.1 c.in_err-sum.ensures.read
    (λ h. first_fails Or (first_fails And (first_fails Equal (first_fails Compare h))))

pub expression_from-returns-then-not-goes_on_behind_sum-clause-read : goal.expression_from-returns-then-not-goes_on_behind_sum-clause-read
expression_from-returns-then-not-goes_on_behind_sum-clause-read t c =
    let ends = ap behind_sum (sym c.peek.ensures.kind) ∙ sym c.goes_on_behind_sum.ensures ∙ c.if-not-goes_on_behind_sum.true in
    summed_is_read _ _ (sum_tree c.in_ok-sum.sum) _ (summed_made c.in_ok-sum.sum) c.in_ok-sum.ensures.read ends

pub disjunction_from-returns-in_err-first-clause-read : goal.disjunction_from-returns-in_err-first-clause-read
disjunction_from-returns-in_err-first-clause-read t c = exits disjunction_tree level (level_on (Joined Or)) level_at _ _ _ _ _ c.from_residual.ensures.1 c.in_err-first.ensures.read
    (λ h. first_fails Or h)

pub disjunction_from-returns-in_err-others-clause-read : goal.disjunction_from-returns-in_err-others-clause-read
disjunction_from-returns-in_err-others-clause-read t c = exits disjunction_tree level (level_on (Joined Or)) level_at _ _ _ _ _ c.from_residual-in_err-others.ensures.1 c.in_err-others.ensures
    (λ h. others_fail Or (conjunction_tree c.in_ok-first.first) c.in_ok-first.ensures.read h)

pub disjunction_from-returns-clause-read : goal.disjunction_from-returns-clause-read
disjunction_from-returns-clause-read t c = chain_is_read Or _ _ _ (conjunction_tree c.in_ok-first.first) (map (without_sign conjunction_tree) c.in_ok-others.others.items) _ (disjunction_made c.in_ok-first.first c.in_ok-others.others) c.in_ok-first.ensures.read c.in_ok-others.ensures

pub conjunctions-returns-in_err-or_conjunction : goal.conjunctions-returns-in_err-or_conjunction
conjunctions-returns-in_err-or_conjunction t c = exits (λ v. map (without_sign conjunction_tree) v.items) (flat_map (step Or)) (level_on (Joined Or)) (steps_end Or) _ _ _ _ _ c.from_residual.ensures.1 c.in_err-or_conjunction.ensures
    (λ h. step_fails Or (map (without_sign conjunction_tree) c.each.all.items) c.each.invariant.read (kind_leads kind.OrOr _ (c.each-test.ensures.is.0 refl)) h)

pub conjunctions-each-preserved : goal.conjunctions-each-preserved
conjunctions-each-preserved t c = record {
  read = grind (arith, common_steps);
  ended = last_read (step_at Or) (without_sign conjunction_tree) c.in_ok-or_conjunction.field-0 c.each.all.items c.push.new.all.items _ c.in_ok-push.ensures c.in_ok-or_conjunction.ensures.1;
  shorter = grind (arith, common_steps);
}

pub or_conjunction-returns-in_err-expect : goal.or_conjunction-returns-in_err-expect
or_conjunction-returns-in_err-expect t c = exits (without_sign conjunction_tree) (step Or) (level_on (Joined And)) (step_at Or) _ _ _ _ _ c.from_residual.ensures.1 c.in_err-expect.ensures
    (λ h. mark_fails Or h)

pub or_conjunction-returns-in_err-sum : goal.or_conjunction-returns-in_err-sum
or_conjunction-returns-in_err-sum t c = exits (without_sign conjunction_tree) (step Or) (level_on (Joined And)) (step_at Or) _ _ _ _ _ c.from_residual-in_err-sum.ensures.1 c.in_err-sum.ensures
    (λ h. behind_fails Or tt c.in_ok-expect.ensures (first_fails And (first_fails Equal (first_fails Compare h))))

pub or_conjunction-returns : goal.or_conjunction-returns
or_conjunction-returns t c = step_tail Or conjunction_tree tt _ _ _ _ c.in_ok-expect.ensures (subst (λ mid. Reads conjunction_tree level (level_on (Joined And)) level_at mid c.conjunction_from.new.cursor c.conjunction_from.result) (sym c.in_ok-sum.ensures.0) c.conjunction_from.ensures.read)

pub conjunction_from-returns-in_err-first-clause-read : goal.conjunction_from-returns-in_err-first-clause-read
conjunction_from-returns-in_err-first-clause-read t c = exits conjunction_tree level (level_on (Joined And)) level_at _ _ _ _ _ c.from_residual.ensures.1 c.in_err-first.ensures.read
    (λ h. first_fails And h)

pub conjunction_from-returns-in_err-others-clause-read : goal.conjunction_from-returns-in_err-others-clause-read
conjunction_from-returns-in_err-others-clause-read t c = exits conjunction_tree level (level_on (Joined And)) level_at _ _ _ _ _ c.from_residual-in_err-others.ensures.1 c.in_err-others.ensures
    (λ h. others_fail And (equality_tree c.in_ok-first.first) c.in_ok-first.ensures.read h)

pub conjunction_from-returns-clause-read : goal.conjunction_from-returns-clause-read
conjunction_from-returns-clause-read t c = chain_is_read And _ _ _ (equality_tree c.in_ok-first.first) (map (without_sign equality_tree) c.in_ok-others.others.items) _ (conjunction_made c.in_ok-first.first c.in_ok-others.others) c.in_ok-first.ensures.read c.in_ok-others.ensures

pub equalities-returns-in_err-and_equality : goal.equalities-returns-in_err-and_equality
equalities-returns-in_err-and_equality t c = exits (λ v. map (without_sign equality_tree) v.items) (flat_map (step And)) (level_on (Joined And)) (steps_end And) _ _ _ _ _ c.from_residual.ensures.1 c.in_err-and_equality.ensures
    (λ h. step_fails And (map (without_sign equality_tree) c.each.all.items) c.each.invariant.read (kind_leads kind.AndAnd _ (c.each-test.ensures.is.0 refl)) h)

pub equalities-each-preserved : goal.equalities-each-preserved
equalities-each-preserved t c = record {
  read = grind (arith, common_steps);
  ended = last_read (step_at And) (without_sign equality_tree) c.in_ok-and_equality.field-0 c.each.all.items c.push.new.all.items _ c.in_ok-push.ensures c.in_ok-and_equality.ensures.1;
  shorter = grind (arith, common_steps);
}

pub and_equality-returns-in_err-expect : goal.and_equality-returns-in_err-expect
and_equality-returns-in_err-expect t c = exits (without_sign equality_tree) (step And) (level_on (Joined Equal)) (step_at And) _ _ _ _ _ c.from_residual.ensures.1 c.in_err-expect.ensures
    (λ h. mark_fails And h)

pub and_equality-returns-in_err-sum : goal.and_equality-returns-in_err-sum
and_equality-returns-in_err-sum t c = exits (without_sign equality_tree) (step And) (level_on (Joined Equal)) (step_at And) _ _ _ _ _ c.from_residual-in_err-sum.ensures.1 c.in_err-sum.ensures
    (λ h. behind_fails And tt c.in_ok-expect.ensures (first_fails Equal (first_fails Compare h)))

pub and_equality-returns : goal.and_equality-returns
and_equality-returns t c = step_tail And equality_tree tt _ _ _ _ c.in_ok-expect.ensures (subst (λ mid. Reads equality_tree level (level_on (Joined Equal)) level_at mid c.equality_from.new.cursor c.equality_from.result) (sym c.in_ok-sum.ensures.0) c.equality_from.ensures.read)

pub equality_from-returns-in_err-first-clause-read : goal.equality_from-returns-in_err-first-clause-read
equality_from-returns-in_err-first-clause-read t c = exits equality_tree level (level_on (Joined Equal)) level_at _ _ _ _ _ c.from_residual.ensures.1 c.in_err-first.ensures.read
    (λ h. first_fails Equal h)

pub equality_from-returns-in_err-others-clause-read : goal.equality_from-returns-in_err-others-clause-read
equality_from-returns-in_err-others-clause-read t c = exits equality_tree level (level_on (Joined Equal)) level_at _ _ _ _ _ c.from_residual-in_err-others.ensures.1 c.in_err-others.ensures
    (λ h. others_fail Equal (relation_tree c.in_ok-first.first) c.in_ok-first.ensures.read h)

pub equality_from-returns-clause-read : goal.equality_from-returns-clause-read
equality_from-returns-clause-read t c = chain_is_read Equal _ _ _ (relation_tree c.in_ok-first.first) (map equality_step_tree c.in_ok-others.others.items) _ (equality_made c.in_ok-first.first c.in_ok-others.others) c.in_ok-first.ensures.read c.in_ok-others.ensures

pub equality_steps-returns-in_err-equality_step : goal.equality_steps-returns-in_err-equality_step
equality_steps-returns-in_err-equality_step t c = exits (λ v. map equality_step_tree v.items) (flat_map (step Equal)) (level_on (Joined Equal)) (steps_end Equal) _ _ _ _ _ c.from_residual.ensures.1 c.in_err-equality_step.ensures
    (λ h. step_fails Equal (map equality_step_tree c.each.all.items) c.each.invariant.read (test_leads (joins Equal) c.each.cursor refl (ap (joins Equal) (sym c.peek.ensures.kind) ∙ sym c.is_equality.ensures ∙ c.each-test.true)) h)

pub equality_steps-each-preserved : goal.equality_steps-each-preserved
equality_steps-each-preserved t c = record {
  read = grind (arith, common_steps);
  ended = last_read (step_at Equal) equality_step_tree c.in_ok-equality_step.field-0 c.each.all.items c.push.new.all.items _ c.in_ok-push.ensures c.in_ok-equality_step.ensures.1;
  shorter = grind (arith, common_steps);
}

pub equality_step-returns-in_err-operator : goal.equality_step-returns-in_err-operator
equality_step-returns-in_err-operator t c = exits equality_step_tree (step Equal) (level_on (Joined Compare)) (step_at Equal) _ _ _ _ _ c.from_residual.ensures.1 c.in_err-operator.ensures
    (λ h. mark_fails Equal h)

pub equality_step-returns-in_err-sum : goal.equality_step-returns-in_err-sum
equality_step-returns-in_err-sum t c = exits equality_step_tree (step Equal) (level_on (Joined Compare)) (step_at Equal) _ _ _ _ _ c.from_residual-in_err-sum.ensures.1 c.in_err-sum.ensures
    (λ h. behind_fails Equal c.in_ok-operator.operator c.in_ok-operator.ensures (first_fails Compare h))

pub equality_step-returns-in_err-relation : goal.equality_step-returns-in_err-relation
equality_step-returns-in_err-relation t c = exits equality_step_tree (step Equal) (level_on (Joined Compare)) (step_at Equal) _ _ _ _ _ c.from_residual-in_err-relation.ensures.1 c.in_err-relation.ensures.read
    (λ h. behind_fails Equal c.in_ok-operator.operator c.in_ok-operator.ensures (subst (λ mid. Fails (level {l = Joined Compare}) (level_on (Joined Compare)) mid c.relation_from.new.cursor) (sym c.in_ok-sum.ensures.0) h))

pub relation_from-returns-in_err-others-clause-read : goal.relation_from-returns-in_err-others-clause-read
relation_from-returns-in_err-others-clause-read t c = exits relation_tree level (level_on (Joined Compare)) level_at _ _ _ _ _ c.from_residual.ensures.1 c.in_err-others.ensures
    (λ h. others_fail Compare (sum_tree c.args.sum) (refl, c.requires) h)

pub relation_from-returns-clause-read : goal.relation_from-returns-clause-read
relation_from-returns-clause-read t c = chain_is_read Compare _ _ _ (sum_tree c.args.sum) (map relation_step_tree c.in_ok-others.others.items) _ (relation_made c.args.sum c.in_ok-others.others) (refl, c.requires) c.in_ok-others.ensures

pub relation_steps-returns-in_err-relation_step : goal.relation_steps-returns-in_err-relation_step
relation_steps-returns-in_err-relation_step t c = exits (λ v. map relation_step_tree v.items) (flat_map (step Compare)) (level_on (Joined Compare)) (steps_end Compare) _ _ _ _ _ c.from_residual.ensures.1 c.in_err-relation_step.ensures
    (λ h. step_fails Compare (map relation_step_tree c.each.all.items) c.each.invariant.read (test_leads (joins Compare) c.each.cursor refl (ap (joins Compare) (sym c.peek.ensures.kind) ∙ sym c.is_relation.ensures ∙ c.each-test.true)) h)

pub relation_steps-each-preserved : goal.relation_steps-each-preserved
relation_steps-each-preserved t c = record {
  read = grind (arith, common_steps);
  ended = last_read (step_at Compare) relation_step_tree c.in_ok-relation_step.field-0 c.each.all.items c.push.new.all.items _ c.in_ok-push.ensures c.in_ok-relation_step.ensures.1;
  shorter = grind (arith, common_steps);
}

pub relation_step-returns-in_err-operator : goal.relation_step-returns-in_err-operator
relation_step-returns-in_err-operator t c = exits relation_step_tree (step Compare) (level_on (Joined Add)) (step_at Compare) _ _ _ _ _ c.from_residual.ensures.1 c.in_err-operator.ensures
    (λ h. mark_fails Compare h)

pub relation_step-returns-in_err-sum : goal.relation_step-returns-in_err-sum
relation_step-returns-in_err-sum t c = exits relation_step_tree (step Compare) (level_on (Joined Add)) (step_at Compare) _ _ _ _ _ c.from_residual-in_err-sum.ensures.1 c.in_err-sum.ensures
    (λ h. behind_fails Compare c.in_ok-operator.operator c.in_ok-operator.ensures h)

pub read_sum-returns-in_err-unary : goal.read_sum-returns-in_err-unary
read_sum-returns-in_err-unary t c = exits sum_tree level (level_on (Joined Add)) level_at _ _ _ _ _ c.from_residual.ensures.1 c.in_err-unary.ensures
    (λ h. unary_fails (Joined Add) h)

pub sum_from-returns-then-not-is_factor-clause-read : goal.sum_from-returns-then-not-is_factor-clause-read
sum_from-returns-then-not-is_factor-clause-read t c =
    let ends = ap joins_factors (sym c.peek.ensures.kind) ∙ sym c.is_factor.ensures ∙ c.if-not-is_factor.true in
    unary_is_sum _ _ (unary_tree c.args.unary) _ (termed_made c.args.unary) (refl, c.requires) ends

pub sum_from-returns-in_err-second-clause-read : goal.sum_from-returns-in_err-second-clause-read
sum_from-returns-in_err-second-clause-read t c = exits sum_tree level (level_on (Joined Add)) level_at _ _ _ _ _ c.from_residual.ensures.1 c.in_err-second.ensures
    (λ h. second_fails (unary_tree c.args.unary) (refl, c.requires) (test_leads joins_factors c.args.cursor.now refl (ap joins_factors (sym c.peek.ensures.kind) ∙ sym c.is_factor.ensures ∙ c.if-not-is_factor.false)) h)

pub sum_from-returns-in_err-others-clause-read : goal.sum_from-returns-in_err-others-clause-read
sum_from-returns-in_err-others-clause-read t c = exits sum_tree level (level_on (Joined Add)) level_at _ _ _ _ _ c.from_residual-in_err-others.ensures.1 c.in_err-others.ensures
    (λ h. other_factors_fail (unary_tree c.args.unary) (factor_tree c.in_ok-second.second) (refl, c.requires) c.in_ok-second.ensures h)

pub sum_from-returns-clause-read : goal.sum_from-returns-clause-read
sum_from-returns-clause-read t c = factors_are_read _ _ _ _ (unary_tree c.args.unary) (factor_tree c.in_ok-second.second) (map factor_tree c.in_ok-others.others.items) _
    (of_factors c.in_ok-new.field-0 ∙ ap factors_tree c.in_ok-new.ensures.ok ∙ factors_made c.args.unary c.in_ok-second.second c.in_ok-others.others) (refl, c.requires) c.in_ok-second.ensures c.in_ok-others.ensures

pub factors-returns-in_err-read_factor : goal.factors-returns-in_err-read_factor
factors-returns-in_err-read_factor t c = exits (λ v. map factor_tree v.items) (flat_map factor) (level_on (Joined Add)) factors_end _ _ _ _ _ c.from_residual.ensures.1 c.in_err-read_factor.ensures
    (λ h. factor_fails (map factor_tree c.each.all.items) c.each.invariant.read (test_leads joins_factors c.each.cursor refl (ap joins_factors (sym c.peek.ensures.kind) ∙ sym c.is_factor.ensures ∙ c.each-test.true)) h)

pub factors-each-preserved : goal.factors-each-preserved
factors-each-preserved t c = record {
  read = grind (arith, common_steps);
  ended = last_read factor_at factor_tree c.in_ok-read_factor.field-0 c.each.all.items c.push.new.all.items _ c.in_ok-push.ensures c.in_ok-read_factor.ensures.1;
  shorter = grind (arith, common_steps);
}

pub read_factor-returns-in_err-operator : goal.read_factor-returns-in_err-operator
read_factor-returns-in_err-operator t c = exits factor_tree factor (level_on Single) factor_at _ _ _ _ _ c.from_residual.ensures.1 c.in_err-operator.ensures
    (λ h. factor_mark_fails h)

pub read_factor-returns-in_err-unary : goal.read_factor-returns-in_err-unary
read_factor-returns-in_err-unary t c = exits factor_tree factor (level_on Single) factor_at _ _ _ _ _ c.from_residual-in_err-unary.ensures.1 c.in_err-unary.ensures
    (λ h. factor_unary_fails c.in_ok-operator.operator c.in_ok-operator.ensures h)

pub read_expression-returns-in_err-unary : goal.read_expression-returns-in_err-unary
read_expression-returns-in_err-unary t c = exits expression_tree level (level_on (Joined Or)) level_at _ _ _ _ _ c.from_residual.ensures.1 c.in_err-unary.ensures
    (λ h. unary_fails (Joined Or) h)

pub read_unary-returns-in_err-read_atom : goal.read_unary-returns-in_err-read_atom
read_unary-returns-in_err-read_atom t c = exits unary_tree level (level_on Single) level_at _ _ _ _ _ c.from_residual.ensures.1 c.in_err-read_atom.ensures
    (λ h. atom_fails [] (refl, test_stops opens_prefix _ refl (ap opens_prefix (sym c.peek.ensures.kind) ∙ sym c.is_prefix.ensures ∙ c.if-not-is_prefix.true)) h)

pub read_unary-returns-then-not-is_prefix : goal.read_unary-returns-then-not-is_prefix
read_unary-returns-then-not-is_prefix t c =
    let ends = test_stops opens_prefix c.args.cursor.now refl (ap opens_prefix (sym c.peek.ensures.kind) ∙ sym c.is_prefix.ensures ∙ c.if-not-is_prefix.true) in
    unary_is_read _ _ _ [] (atom_tree c.in_ok-read_atom.field-0) _ (plain_made c.in_ok-read_atom.field-0) (refl, ends) c.in_ok-read_atom.ensures

pub read_unary-returns-in_err-prefixes : goal.read_unary-returns-in_err-prefixes
read_unary-returns-in_err-prefixes t c = exits unary_tree level (level_on Single) level_at _ _ _ _ _ c.from_residual-in_err-prefixes.ensures.1 c.in_err-prefixes.ensures
    (λ h. prefixes_fail h)

pub read_unary-returns-in_err-atom : goal.read_unary-returns-in_err-atom
read_unary-returns-in_err-atom t c = exits unary_tree level (level_on Single) level_at _ _ _ _ _ c.from_residual-in_err-atom.ensures.1 c.in_err-atom.ensures
    (λ h. atom_fails c.in_ok-prefixes.prefixes.items c.in_ok-prefixes.ensures h)

pub read_unary-returns : goal.read_unary-returns
read_unary-returns t c = unary_is_read _ _ _ c.in_ok-prefixes.prefixes.items (atom_tree c.in_ok-atom.atom) _
    (prefixed_made c.in_ok-new.field-0 ∙ ap prefixed_tree c.in_ok-new.ensures.ok ∙ prefixed_parts c.in_ok-prefixes.prefixes c.in_ok-atom.atom) c.in_ok-prefixes.ensures c.in_ok-atom.ensures

pub read_atom-returns-in_err-read_target : goal.read_atom-returns-in_err-read_target
read_atom-returns-in_err-read_target t c = exits atom_tree atom (level_on Single) atom_at _ _ _ _ _ c.from_residual.ensures.1 c.in_err-read_target.ensures
    (λ h. form_fails target_form (kind_leads kind.Name _ (c.is_next.ensures.is.0 c.if-is_next.true)) h)

pub read_atom-returns-in_err-open : goal.read_atom-returns-in_err-open
read_atom-returns-in_err-open t c = exits atom_tree atom (level_on Single) atom_at _ _ _ _ _ c.from_residual-in_err-open.ensures.1 c.in_err-open.ensures
    (λ h. form_fails parens_form (kind_leads kind.OpenParen _ (c.is_next-else-is_next.ensures.is.0 c.if-is_next-2.true)) (wide_fails (λ y k. refl) h))

pub read_atom-returns-in_err-expect_span : goal.read_atom-returns-in_err-expect_span
read_atom-returns-in_err-expect_span t c = exits atom_tree atom (level_on Single) atom_at _ _ _ _ _ c.from_residual-in_err-expect_span.ensures.1 c.in_err-expect_span.ensures
    (λ h. form_fails number_form (number_leads _ c.is_next.ensures.some (iff_false c.is_next.ensures.is c.if-is_next.false) (iff_false c.is_next-else-is_next.ensures.is c.if-is_next-2.false) (iff_false c.is_next-else-is_next-2.ensures.is c.if-is_next-3.false) (iff_false c.is_next-else-is_next-3.ensures.is c.if-is_next-4.false)) (wide_fails (λ y k. refl) h))

pub read_atom-returns-then-is_next-3 : goal.read_atom-returns-then-is_next-3
read_atom-returns-then-is_next-3 t c = atom_is_read _ _ _ (True c.skip.result) (true_made c.skip.result) (c.skip.ensures.placed kind.True refl (c.is_next-else-is_next-2.ensures.is.0 c.if-is_next-3.true)) (stops_never _)

pub read_atom-returns-then-is_next-4 : goal.read_atom-returns-then-is_next-4
read_atom-returns-then-is_next-4 t c = atom_is_read _ _ _ (False c.skip-then-is_next-4.result) (false_made c.skip-then-is_next-4.result) (c.skip-then-is_next-4.ensures.placed kind.False refl (c.is_next-else-is_next-3.ensures.is.0 c.if-is_next-4.true)) (stops_never _)

pub read_atom-returns-in_ok-expect_span : goal.read_atom-returns-in_ok-expect_span
read_atom-returns-in_ok-expect_span t c = atom_is_read _ _ _ (Number c.in_ok-expect_span.field-0) (number_made c.in_ok-expect_span.field-0) c.in_ok-expect_span.ensures.0 (stops_never _)

pub read_parens-returns-in_err-left : goal.read_parens-returns-in_err-left
read_parens-returns-in_err-left t c = exits (λ p. (p.0, expression_tree p.1)) (parens expression) never (λ _. never) _ _ _ _ _ c.from_residual.ensures.1 c.in_err-left.ensures
    (λ h. parens_open_fails in_parens expression_piece h)

pub read_parens-returns-in_err-inner : goal.read_parens-returns-in_err-inner
read_parens-returns-in_err-inner t c = exits (λ p. (p.0, expression_tree p.1)) (parens expression) never (λ _. never) _ _ _ _ _ c.from_residual-in_err-inner.ensures.1 c.in_err-inner.ensures
    (λ h. parens_fails in_parens c.in_ok-left.left c.in_ok-left.ensures h)

pub read_parens-returns-in_err-expect : goal.read_parens-returns-in_err-expect
read_parens-returns-in_err-expect t c = exits (λ p. (p.0, expression_tree p.1)) (parens expression) never (λ _. never) _ _ _ _ _ c.from_residual-in_err-expect.ensures.1 c.in_err-expect.ensures
    (λ h. parens_close_fails in_parens c.in_ok-left.left (expression_tree c.in_ok-inner.inner) expression_piece c.in_ok-left.ensures c.in_ok-inner.ensures h)

pub read_index-returns-in_err-expect : goal.read_index-returns-in_err-expect
read_index-returns-in_err-expect t c = exits expression_tree index never (λ _. never) _ _ _ _ _ c.from_residual.ensures.1 c.in_err-expect.ensures
    (λ h. brackets_open_fails in_brackets expression_piece h)

pub read_index-returns-in_err-index : goal.read_index-returns-in_err-index
read_index-returns-in_err-index t c = exits expression_tree index never (λ _. never) _ _ _ _ _ c.from_residual-in_err-index.ensures.1 c.in_err-index.ensures
    (λ h. brackets_fails in_brackets c.in_ok-expect.ensures h)

pub read_index-returns-in_err-expect-2 : goal.read_index-returns-in_err-expect-2
read_index-returns-in_err-expect-2 t c = exits expression_tree index never (λ _. never) _ _ _ _ _ c.from_residual-in_err-expect-2.ensures.1 c.in_err-expect-2.ensures
    (λ h. brackets_close_fails in_brackets (expression_tree c.in_ok-index.index) expression_piece c.in_ok-expect.ensures c.in_ok-index.ensures h)

pub read_target-returns-in_err-variable : goal.read_target-returns-in_err-variable
read_target-returns-in_err-variable t c = exits target_tree target target_on target_at _ _ _ _ _ c.from_residual.ensures.1 c.in_err-variable.ensures
    (λ h. variable_fails h)

pub target_from-returns-in_err-field-clause-read : goal.target_from-returns-in_err-field-clause-read
target_from-returns-in_err-field-clause-read t c = exits target_tree target target_on target_at _ _ _ _ _ c.from_residual.ensures.1 c.in_err-field.ensures
    (λ h. dotted_fails c.args.variable (c.is_next.ensures.is.0 c.if-is_next.true) h)

pub target_from-returns-in_err-index-clause-read : goal.target_from-returns-in_err-index-clause-read
target_from-returns-in_err-index-clause-read t c = exits target_tree target target_on target_at _ _ _ _ _ c.from_residual-in_err-index.ensures.1 c.in_err-index.ensures
    (λ h. indexed_fails c.args.variable (c.is_next-else-is_next.ensures.is.0 c.if-is_next-2.true) h)
