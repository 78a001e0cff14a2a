use Rattle.std.proofs.Common.{sym, subst}
use Rattle.std.proofs.lemmas.Bool.{iff_false}
use Rattle.source.specs.declared.kind.Kind.TheVariants as kind
use Rattle.syntax.specs.Reading.{Reads}
use Rattle.tree.specs.ExpressionTrees.{expression_tree}
use Rattle.tree.specs.Values.{value_tree, value_spelling}
use Rattle.syntax.specs.ValueReads.{value_on, value_at}
use Rattle.syntax.proofs.pieces.Exits.{exits}
use Rattle.syntax.proofs.pieces.KindLemmas.{kind_leads, neither_leads}
use Rattle.syntax.proofs.ValueFails.{new_fails, plain_fails}
use Rattle.syntax.proofs.ValueEnds.{value_ends, plain_ends}
use Rattle.syntax.proofs.values.read_value.Goals as goal

pub returns-in_err-read_new : goal.returns-in_err-read_new
returns-in_err-read_new c = exits value_tree value_spelling value_on value_at _ _ _ _ _ c.from_residual.ensures.1 c.in_err-read_new.ensures
    (λ h. new_fails (kind_leads kind.New _ (c.is_next.ensures.is.0 c.if-is_next.true)) h)

pub returns-then-is_next-2 : goal.returns-then-is_next-2
returns-then-is_next-2 c = subst (λ old. Reads value_tree value_spelling value_on value_at old c.named_value.new.cursor c.named_value.result) (sym (c.skip-variable.ensures.named (c.is_next-else-is_next.ensures.is.0 c.if-is_next-2.true))) c.named_value.ensures

pub returns-in_err-read_expression : goal.returns-in_err-read_expression
returns-in_err-read_expression c = exits value_tree value_spelling value_on value_at _ _ _ _ _ c.from_residual-in_err-read_expression.ensures.1 c.in_err-read_expression.ensures
    (λ h. plain_fails (neither_leads kind.New kind.Name _ c.is_next.ensures.some (iff_false c.is_next.ensures.is c.if-is_next.false) (iff_false c.is_next-else-is_next.ensures.is c.if-is_next-2.false)) h)

pub returns-in_ok-read_expression : goal.returns-in_ok-read_expression
returns-in_ok-read_expression c = (
  c.in_ok-read_expression.ensures.0,
  value_ends (expression_tree c.in_ok-read_expression.field-0) _ c.in_ok-read_expression.ensures.1
      (plain_ends (expression_tree c.in_ok-read_expression.field-0) _ _ (neither_leads kind.New kind.Name _ c.is_next.ensures.some (iff_false c.is_next.ensures.is c.if-is_next.false) (iff_false c.is_next-else-is_next.ensures.is c.if-is_next-2.false)) c.in_ok-read_expression.ensures.0),
)
