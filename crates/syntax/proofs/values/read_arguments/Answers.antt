use Rattle.std.proofs.Common.{map}
use Rattle.syntax.specs.Reading.{never}
use Rattle.tree.specs.ExpressionTrees.{expression_tree}
use Rattle.tree.specs.Values.{arguments}
use Rattle.syntax.proofs.pieces.Exits.{exits}
use Rattle.syntax.proofs.pieces.Enclosed.{parens_open_fails, parens_fails, parens_close_fails}
use Rattle.syntax.proofs.ValueRules.{arguments_inside, expression_list_piece}
use Rattle.syntax.proofs.values.read_arguments.Goals as goal

pub returns-in_err-left : goal.returns-in_err-left
returns-in_err-left c = exits (λ p. (p.0, map expression_tree p.1.items)) arguments never (λ _. never) _ _ _ _ _ c.from_residual.ensures.1 c.in_err-left.ensures
    (λ h. parens_open_fails arguments_inside expression_list_piece h)

pub returns-in_err-all : goal.returns-in_err-all
returns-in_err-all c = exits (λ p. (p.0, map expression_tree p.1.items)) arguments never (λ _. never) _ _ _ _ _ c.from_residual-in_err-all.ensures.1 c.in_err-all.ensures
    (λ h. parens_fails arguments_inside c.in_ok-left.left c.in_ok-left.ensures h)

pub returns-in_err-expect : goal.returns-in_err-expect
returns-in_err-expect c = exits (λ p. (p.0, map expression_tree p.1.items)) arguments never (λ _. never) _ _ _ _ _ c.from_residual-in_err-expect.ensures.1 c.in_err-expect.ensures
    (λ h. parens_close_fails arguments_inside c.in_ok-left.left (map expression_tree c.in_ok-all.all.items) expression_list_piece c.in_ok-left.ensures c.in_ok-all.ensures h)
