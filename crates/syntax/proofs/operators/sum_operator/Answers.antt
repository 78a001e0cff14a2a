use Rattle.source.specs.declared.kind.Kind.TheVariants as kind
use Rattle.std.proofs.lemmas.Bool.{iff_false}
use Rattle.syntax.specs.Reading.{never}
use Rattle.tree.specs.Operators.{sum_operator}
use Rattle.syntax.proofs.pieces.Exits.{exits}
use Rattle.syntax.proofs.pieces.Choices.{form_fails}
use Rattle.syntax.proofs.pieces.KindLemmas.{kind_leads, not_leads}
use Rattle.syntax.proofs.OperatorRules.{minus_form, plus_form}
use Rattle.syntax.proofs.operators.sum_operator.Goals as goal

pub returns-in_err-expect_span : goal.returns-in_err-expect_span
returns-in_err-expect_span c = exits (λ x. x) sum_operator never (λ _. never) _ _ _ _ _ c.from_residual.ensures.1 c.in_err-expect_span.ensures
    (λ h. form_fails minus_form (kind_leads kind.Minus _ (c.is_next.ensures.is.0 c.if-is_next.true)) h)

pub returns-in_err-expect : goal.returns-in_err-expect
returns-in_err-expect c = exits (λ x. x) sum_operator never (λ _. never) _ _ _ _ _ c.from_residual-in_err-expect.ensures.1 c.in_err-expect.ensures
    (λ h. form_fails plus_form (not_leads kind.Minus _ c.is_next.ensures.some (iff_false c.is_next.ensures.is c.if-is_next.false)) h)
