use Rattle.std.proofs.Common.{◌≡◌, ◌++◌, Some, sym, ap, ◌∙◌, subst}
use Rattle.std.proofs.lemmas.Bool.{iff_false}
use Rattle.source.specs.declared.kind.Kind.TheVariants as kind
use Rattle.tree.specs.Spelling.{name}
use Rattle.syntax.specs.Reading.{Fails}
use Rattle.tree.specs.Expressions.{target, expression, dot_name}
use Rattle.syntax.specs.ExpressionReads.{expression_on}
use Rattle.tree.specs.ExpressionTrees.{expression_tree}
use Rattle.syntax.proofs.TreeLemmas.{field_made}
use Rattle.tree.specs.Values.{value_tree, value_spelling}
use Rattle.syntax.specs.ValueReads.{value_on, value_at}
use Rattle.syntax.proofs.pieces.Exits.{exits}
use Rattle.syntax.proofs.pieces.KindLemmas.{kind_leads, not_leads}
use Rattle.syntax.proofs.ValueFails.{call_fails, member_fails}
use Rattle.syntax.proofs.ValueEnds.{value_ends, member_ends}
use Rattle.syntax.proofs.values.member_value.Goals as goal

pub returns-in_err-call : goal.returns-in_err-call
returns-in_err-call c = exits value_tree value_spelling value_on value_at _ _ _ _ _ c.from_residual.ensures.1 c.in_err-call.ensures
    (λ h. call_fails _ c.args.variable (Some c.args.member) (kind_leads kind.OpenParen _ (c.is_next.ensures.is.0 c.if-is_next.true)) h)

pub returns-in_err-expression_of : goal.returns-in_err-expression_of
returns-in_err-expression_of c = exits value_tree value_spelling value_on value_at _ _ _ _ _ c.from_residual-in_err-expression_of.ensures.1 c.in_err-expression_of.ensures
    (λ h. member_fails c.args.variable c.args.member (not_leads kind.OpenParen _ c.is_next.ensures.some (iff_false c.is_next.ensures.is c.if-is_next.false))
    (subst (λ t. Fails expression expression_on (target t ++ c.args.cursor.now) c.expression_of.new.cursor) (field_made c.in_ok-new-2.field-0 c.args.variable c.args.member c.in_ok-new-2.ensures.ok) h))

pub returns-in_ok-expression_of : goal.returns-in_ok-expression_of
returns-in_ok-expression_of c =
    let read : name c.args.variable ++ (dot_name c.args.member ++ c.args.cursor.now) ≡ expression (expression_tree c.in_ok-expression_of.field-0) ++ c.expression_of.new.cursor =
    ap (λ t. target t ++ c.args.cursor.now) (sym (field_made c.in_ok-new-2.field-0 c.args.variable c.args.member c.in_ok-new-2.ensures.ok)) ∙ c.in_ok-expression_of.ensures.0 in (
      read,
      value_ends (expression_tree c.in_ok-expression_of.field-0) _ c.in_ok-expression_of.ensures.1
          (member_ends c.args.variable c.args.member (expression_tree c.in_ok-expression_of.field-0) _ _ (not_leads kind.OpenParen _ c.is_next.ensures.some (iff_false c.is_next.ensures.is c.if-is_next.false)) read),
    )
