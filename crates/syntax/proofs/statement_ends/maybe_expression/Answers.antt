use Rattle.std.proofs.Common.{refl, sym, ap, ◌∙◌}
use Rattle.tree.specs.Symbols.{by_kind}
use Rattle.tree.specs.Spelling.{optional}
use Rattle.syntax.specs.Reading.{optional_at}
use Rattle.syntax.proofs.pieces.Exits.{exits}
use Rattle.syntax.proofs.pieces.KindLemmas.{test_leads}
use Rattle.std.specs.Option.{option_map}
use Rattle.tree.specs.Expressions.{expression}
use Rattle.syntax.specs.ExpressionReads.{opens_expression, expression_at}
use Rattle.tree.specs.ExpressionTrees.{expression_tree}
use Rattle.syntax.specs.StatementParts.{result_on}
use Rattle.syntax.proofs.pieces.Options.{open_opt_fails}
use Rattle.syntax.proofs.PlainRules.{result_opens}
use Rattle.syntax.proofs.ExpressionFails.{expression_piece, expression_starts}
use Rattle.syntax.proofs.statement_ends.maybe_expression.Goals as goal

pub returns-in_err-read_expression : goal.returns-in_err-read_expression
returns-in_err-read_expression c = exits (option_map (λ e. expression_tree e.value)) (optional expression) result_on (optional_at (by_kind opens_expression) expression_at) _ _ _ _ _ c.from_residual.ensures.1 c.in_err-read_expression.ensures
    (λ h. open_opt_fails expression_piece expression_starts result_opens (test_leads opens_expression c.args.cursor.now refl (ap opens_expression (sym c.peek.ensures.kind) ∙ sym c.is_expression.ensures ∙ c.if-is_expression.true)) h)
