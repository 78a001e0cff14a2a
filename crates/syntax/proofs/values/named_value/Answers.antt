use Rattle.std.proofs.Common.{◌++◌, None, sym, ◌∙◌, subst}
use Rattle.std.proofs.lemmas.Bool.{iff_false}
use Rattle.source.specs.declared.kind.Kind.TheVariants as kind
use Rattle.tree.specs.Spelling.{name}
use Rattle.syntax.specs.Reading.{Reads, Fails}
use Rattle.tree.specs.Expressions.{expression}
use Rattle.syntax.specs.ExpressionReads.{expression_on}
use Rattle.tree.specs.ExpressionTrees.{expression_tree}
use Rattle.tree.specs.Values.{value_tree, value_spelling}
use Rattle.syntax.specs.ValueReads.{value_on, value_at}
use Rattle.syntax.proofs.pieces.Exits.{exits}
use Rattle.syntax.proofs.pieces.KindLemmas.{kind_leads, neither_leads}
use Rattle.syntax.proofs.ValueFails.{call_fails, named_fails, dot_fails}
use Rattle.syntax.proofs.ValueEnds.{value_ends, named_ends, target_expression_fails}
use Rattle.syntax.proofs.values.named_value.Goals as goal

pub returns-in_err-call : goal.returns-in_err-call
returns-in_err-call c = exits value_tree value_spelling value_on value_at _ _ _ _ _ c.from_residual.ensures.1 c.in_err-call.ensures
    (λ h. call_fails _ c.args.variable None (kind_leads kind.OpenParen _ (c.is_next.ensures.is.0 c.if-is_next.true)) h)

pub returns-in_err-member : goal.returns-in_err-member
returns-in_err-member c = exits value_tree value_spelling value_on value_at _ _ _ _ _ c.from_residual-in_err-member.ensures.1 c.in_err-member.ensures
    (λ h. dot_fails c.args.variable (c.is_next-else-is_next.ensures.is.0 c.if-is_next-2.true) h)

pub returns-in_ok-member : goal.returns-in_ok-member
returns-in_ok-member c = subst (λ old. Reads value_tree value_spelling value_on value_at (name c.args.variable ++ old) c.member_value.new.cursor c.member_value.result) (sym c.in_ok-member.ensures.0) c.member_value.ensures

pub returns-in_err-first : goal.returns-in_err-first
returns-in_err-first c = exits value_tree value_spelling value_on value_at _ _ _ _ _ c.from_residual-in_err-first.ensures.1 c.in_err-first.ensures.read
    (λ h. named_fails c.args.variable (neither_leads kind.OpenParen kind.Dot _ c.is_next.ensures.some (iff_false c.is_next.ensures.is c.if-is_next.false) (iff_false c.is_next-else-is_next.ensures.is c.if-is_next-2.false)) (target_expression_fails c.args.variable h))

pub returns-in_err-expression_of : goal.returns-in_err-expression_of
returns-in_err-expression_of c = exits value_tree value_spelling value_on value_at _ _ _ _ _ c.from_residual-in_err-expression_of.ensures.1 c.in_err-expression_of.ensures
    (λ h. named_fails c.args.variable (neither_leads kind.OpenParen kind.Dot _ c.is_next.ensures.some (iff_false c.is_next.ensures.is c.if-is_next.false) (iff_false c.is_next-else-is_next.ensures.is c.if-is_next-2.false)) (subst (λ old. Fails expression expression_on old c.expression_of.new.cursor) (sym c.in_ok-first.ensures.read.0) h))

pub returns-in_ok-expression_of : goal.returns-in_ok-expression_of
returns-in_ok-expression_of c = (
  c.in_ok-first.ensures.read.0 ∙ c.in_ok-expression_of.ensures.0,
  value_ends (expression_tree c.in_ok-expression_of.field-0) _ c.in_ok-expression_of.ensures.1
      (named_ends c.args.variable (expression_tree c.in_ok-expression_of.field-0) _ _ (neither_leads kind.OpenParen kind.Dot _ c.is_next.ensures.some (iff_false c.is_next.ensures.is c.if-is_next.false) (iff_false c.is_next-else-is_next.ensures.is c.if-is_next-2.false)) (c.in_ok-first.ensures.read.0 ∙ c.in_ok-expression_of.ensures.0)),
)
