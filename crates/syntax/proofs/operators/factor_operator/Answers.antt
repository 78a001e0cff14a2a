use Rattle.std.proofs.Common.{false, sym, subst}
use Rattle.source.specs.declared.kind.Kind.TheVariants as kind
use Rattle.tree.specs.Symbols.{is_kind}
use Rattle.tree.specs.Spelling.{word, when}
use Rattle.tree.specs.Factors.{factor_operator}
use Rattle.syntax.specs.Reading.{never, when_at, Takes, Fails}
use Rattle.syntax.proofs.pieces.Exits.{exits}
use Rattle.syntax.proofs.pieces.Beginnings.{fails_leads}
use Rattle.syntax.proofs.pieces.Choices.{form_fails}
use Rattle.syntax.proofs.OperatorRules.{terms_form}
use Rattle.syntax.proofs.operators.factor_operator.Goals as goal

pub returns-in_err-sum_operator : goal.returns-in_err-sum_operator
returns-in_err-sum_operator c =
    let none : Takes (when (word kind.Star)) (when_at (is_kind kind.Star)) c.args.cursor.now c.take_if.new.self false =
    subst (Takes (when (word kind.Star)) (when_at (is_kind kind.Star)) c.args.cursor.now c.take_if.new.self) c.if-take_if.false c.take_if.ensures in
    exits (λ x. x) factor_operator never (λ _. never) _ _ _ _ _ c.from_residual.ensures.1 c.in_err-sum_operator.ensures
    (λ h. subst (λ ys. Fails factor_operator never ys c.sum_operator.new.cursor) (sym none.0) (form_fails terms_form (fails_leads (is_kind kind.Star) h none.1) h))
