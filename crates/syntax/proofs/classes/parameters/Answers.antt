use Rattle.tree.specs.Spelling.{comma_list, parens}
use Rattle.syntax.specs.Reading.{never}
use Rattle.syntax.proofs.pieces.Exits.{exits}
use Rattle.syntax.proofs.pieces.Enclosed.{parens_open_fails, parens_fails, parens_close_fails}
use Rattle.tree.specs.Programs.{parameter}
use Rattle.syntax.proofs.definitions.ClassRules.{parameters_inside, parameter_list_piece}
use Rattle.syntax.proofs.classes.parameters.Goals as goal

pub returns-in_err-left : goal.returns-in_err-left
returns-in_err-left c = exits (λ p. (p.0, p.1.items)) (parens (comma_list parameter)) never (λ _. never) _ _ _ _ _ c.from_residual.ensures.1 c.in_err-left.ensures
    (λ h. parens_open_fails parameters_inside parameter_list_piece h)

pub returns-in_err-all : goal.returns-in_err-all
returns-in_err-all c = exits (λ p. (p.0, p.1.items)) (parens (comma_list parameter)) never (λ _. never) _ _ _ _ _ c.from_residual-in_err-all.ensures.1 c.in_err-all.ensures
    (λ h. parens_fails parameters_inside c.in_ok-left.left c.in_ok-left.ensures h)

pub returns-in_err-expect : goal.returns-in_err-expect
returns-in_err-expect c = exits (λ p. (p.0, p.1.items)) (parens (comma_list parameter)) never (λ _. never) _ _ _ _ _ c.from_residual-in_err-expect.ensures.1 c.in_err-expect.ensures
    (λ h. parens_close_fails parameters_inside c.in_ok-left.left c.in_ok-all.all.items parameter_list_piece c.in_ok-left.ensures c.in_ok-all.ensures h)
