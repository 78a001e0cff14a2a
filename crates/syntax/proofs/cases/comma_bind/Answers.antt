use Rattle.tree.specs.Spelling.{comma}
use Rattle.syntax.proofs.pieces.Exits.{exits}
use Rattle.tree.specs.StatementGrammar.{bind}
use Rattle.syntax.specs.StatementParts.{bind_on, bind_at}
use Rattle.syntax.proofs.pieces.ListedOpen.{open_comma_fails, open_item_fails}
use Rattle.syntax.proofs.CaseRules.{bind_item}
use Rattle.syntax.proofs.cases.comma_bind.Goals as goal

pub returns-in_err-expect : goal.returns-in_err-expect
returns-in_err-expect c = exits (λ x. x) (comma bind) bind_on bind_at _ _ _ _ _ c.from_residual.ensures.1 c.in_err-expect.ensures
    (λ h. open_comma_fails bind_item h)

pub returns-in_err-bind : goal.returns-in_err-bind
returns-in_err-bind c = exits (λ x. x) (comma bind) bind_on bind_at _ _ _ _ _ c.from_residual-in_err-bind.ensures.1 c.in_err-bind.ensures
    (λ h. open_item_fails bind_item c.in_ok-expect.ensures h)
