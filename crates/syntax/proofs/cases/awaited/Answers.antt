use Rattle.std.proofs.lemmas.Bool.{iff_false}
use Rattle.source.specs.declared.kind.Kind.TheVariants as kind
use Rattle.syntax.specs.Reading.{never}
use Rattle.syntax.proofs.pieces.Exits.{exits}
use Rattle.syntax.proofs.pieces.Choices.{form_fails}
use Rattle.syntax.proofs.pieces.KindLemmas.{kind_leads, not_leads}
use Rattle.tree.specs.StatementGrammar.{awaited}
use Rattle.syntax.proofs.CaseRules.{message_form, closed_form}
use Rattle.syntax.proofs.cases.awaited.Goals as goal

pub returns-in_err-name : goal.returns-in_err-name
returns-in_err-name c = exits (λ x. x) awaited never (λ _. never) _ _ _ _ _ c.from_residual.ensures.1 c.in_err-name.ensures
    (λ h. form_fails message_form (kind_leads kind.Name _ (c.is_next.ensures.is.0 c.if-is_next.true)) h)

pub returns-in_err-expect_span : goal.returns-in_err-expect_span
returns-in_err-expect_span c = exits (λ x. x) awaited never (λ _. never) _ _ _ _ _ c.from_residual-in_err-expect_span.ensures.1 c.in_err-expect_span.ensures
    (λ h. form_fails closed_form (not_leads kind.Name _ c.is_next.ensures.some (iff_false c.is_next.ensures.is c.if-is_next.false)) h)
