use Rattle.syntax.specs.Reading.{never}
use Rattle.tree.specs.Spelling.{comma}
use Rattle.tree.specs.Grammar.{param}
use Rattle.syntax.proofs.pieces.Exits.{exits}
use Rattle.syntax.proofs.pieces.Listed.{comma_first_fails, comma_item_fails}
use Rattle.syntax.proofs.definitions.TypeForms.{param_item}
use Rattle.syntax.proofs.messages.comma_param.Goals as goal

pub returns-in_err-expect : goal.returns-in_err-expect
returns-in_err-expect c = exits (λ x. x) (comma param) never (λ _. never) _ _ _ _ _ c.from_residual.ensures.1 c.in_err-expect.ensures
    (λ h. comma_first_fails param_item h)

pub returns-in_err-param : goal.returns-in_err-param
returns-in_err-param c = exits (λ x. x) (comma param) never (λ _. never) _ _ _ _ _ c.from_residual-in_err-param.ensures.1 c.in_err-param.ensures
    (λ h. comma_item_fails param_item c.in_ok-expect.ensures h)
