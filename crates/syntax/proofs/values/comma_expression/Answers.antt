use Rattle.tree.specs.Spelling.{comma}
use Rattle.tree.specs.Expressions.{expression}
use Rattle.syntax.specs.ExpressionReads.{expression_on, expression_at}
use Rattle.tree.specs.ExpressionTrees.{expression_tree}
use Rattle.syntax.proofs.pieces.Exits.{exits}
use Rattle.syntax.proofs.pieces.ListedOpen.{open_comma_fails, open_item_fails}
use Rattle.syntax.proofs.ValueRules.{expression_item}
use Rattle.syntax.proofs.values.comma_expression.Goals as goal

pub returns-in_err-expect : goal.returns-in_err-expect
returns-in_err-expect c = exits expression_tree (comma expression) expression_on expression_at _ _ _ _ _ c.from_residual.ensures.1 c.in_err-expect.ensures
    (λ h. open_comma_fails expression_item h)

pub returns-in_err-read_expression : goal.returns-in_err-read_expression
returns-in_err-read_expression c = exits expression_tree (comma expression) expression_on expression_at _ _ _ _ _ c.from_residual-in_err-read_expression.ensures.1 c.in_err-read_expression.ensures
    (λ h. open_item_fails expression_item c.in_ok-expect.ensures h)
