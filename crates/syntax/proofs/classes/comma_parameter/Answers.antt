use Rattle.tree.specs.Spelling.{comma}
use Rattle.syntax.specs.Reading.{never}
use Rattle.syntax.proofs.pieces.Exits.{exits}
use Rattle.syntax.proofs.pieces.Listed.{comma_first_fails, comma_item_fails}
use Rattle.tree.specs.Programs.{parameter}
use Rattle.syntax.proofs.definitions.ClassRules.{parameter_item}
use Rattle.syntax.proofs.classes.comma_parameter.Goals as goal

pub returns-in_err-expect : goal.returns-in_err-expect
returns-in_err-expect c = exits (λ x. x) (comma parameter) never (λ _. never) _ _ _ _ _ c.from_residual.ensures.1 c.in_err-expect.ensures
    (λ h. comma_first_fails parameter_item h)

pub returns-in_err-parameter : goal.returns-in_err-parameter
returns-in_err-parameter c = exits (λ x. x) (comma parameter) never (λ _. never) _ _ _ _ _ c.from_residual-in_err-parameter.ensures.1 c.in_err-parameter.ensures
    (λ h. comma_item_fails parameter_item c.in_ok-expect.ensures h)
