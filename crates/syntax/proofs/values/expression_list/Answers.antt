use Rattle.std.proofs.Common.{◌∷◌, [], ◌++◌, map, sym, ap, ◌∙◌, refl}
use Rattle.std.proofs.lemmas.List.{map-append}
use Rattle.source.specs.declared.kind.Kind.TheVariants as kind
use Rattle.tree.specs.Spelling.{comma_list}
use Rattle.tree.specs.Expressions.{expression}
use Rattle.syntax.specs.ExpressionReads.{opens_expression}
use Rattle.tree.specs.ExpressionTrees.{expression_tree}
use Rattle.syntax.specs.ValueReads.{expressions_on, expressions_at}
use Rattle.syntax.proofs.pieces.Exits.{exits}
use Rattle.syntax.proofs.pieces.KindLemmas.{kind_leads, test_leads}
use Rattle.syntax.proofs.pieces.ListedOpen.{open_first_fails, open_more_fails, list_begun, list_more}
use Rattle.syntax.proofs.ValueRules.{expression_item}
use Rattle.syntax.proofs.values.expression_list.Goals as goal

pub returns-in_err-read_expression : goal.returns-in_err-read_expression
returns-in_err-read_expression c = exits (λ v. map expression_tree v.items) (comma_list expression) expressions_on expressions_at _ _ _ _ _ c.from_residual.ensures.1 c.in_err-read_expression.ensures
    (λ h. open_first_fails expression_item (test_leads opens_expression _ refl (ap opens_expression (sym c.peek.ensures.kind) ∙ sym c.is_expression.ensures ∙ c.if-not-is_expression.false)) h)

pub more-init : goal.more-init
more-init c = list_begun (expression_tree c.in_ok-read_expression.field-0) (map expression_tree c.push.new.all.items) _ _ (ap (map expression_tree) (c.in_ok-push.ensures ∙ ap (λ t. t ++ c.in_ok-read_expression.field-0 ∷ []) c.new-all.ensures.items)) c.in_ok-read_expression.ensures

pub more-preserved : goal.more-preserved
more-preserved c =
    let last = c.in_ok-comma_expression.field-0 in
    list_more (expression_tree last) (map expression_tree c.more.all.items) (map expression_tree c.push-in-more.new.all.items) _ _ _ (ap (map expression_tree) c.in_ok-push-2.ensures ∙ map-append expression_tree c.more.all.items (last ∷ [])) c.more.invariant c.in_ok-comma_expression.ensures

pub returns-in_err-comma_expression : goal.returns-in_err-comma_expression
returns-in_err-comma_expression c =
    let kept = c.more.invariant in
    exits (λ v. map expression_tree v.items) (comma_list expression) expressions_on expressions_at _ _ _ _ _ c.from_residual-in_err-comma_expression.ensures.1 c.in_err-comma_expression.ensures
    (λ h. open_more_fails expression_item kept.first kept.others
    (test_leads opens_expression _ refl (ap opens_expression (sym c.peek.ensures.kind) ∙ sym c.is_expression.ensures ∙ c.if-not-is_expression.false))
    kept.read
    (kind_leads kind.Comma _ (c.more-test.ensures.is.0 refl)) h)
