use Rattle.std.proofs.Common.{refl}
use Rattle.source.specs.declared.kind.Kind.TheVariants as kind
use Rattle.syntax.specs.Reading.{never}
use Rattle.syntax.proofs.pieces.Exits.{exits}
use Rattle.syntax.proofs.pieces.Pieces.{fails_here, fails_after, fails_first, fails_second, via_fails}
use Rattle.syntax.proofs.pieces.CursorLemmas.{fixed_piece, placed_piece}
use Rattle.std.specs.Option.{option_map}
use Rattle.tree.specs.ExpressionTrees.{expression_tree}
use Rattle.syntax.specs.StatementParts.{return_parts}
use Rattle.syntax.proofs.PlainRules.{maybe_expression_piece, result_follows, result_end, return_to, return_from}
use Rattle.syntax.proofs.statement_ends.return_statement.Goals as goal

pub returns-in_err-word : goal.returns-in_err-word
returns-in_err-word c = exits (λ p. (p.0, option_map (λ e. expression_tree e.value) p.1)) return_parts never (λ _. never) _ _ _ _ _ c.from_residual.ensures.1 c.in_err-word.ensures
    (λ h. via_fails return_to return_from (λ _. refl) (fails_here h result_end))

pub returns-in_err-value : goal.returns-in_err-value
returns-in_err-value c = exits (λ p. (p.0, option_map (λ e. expression_tree e.value) p.1)) return_parts never (λ _. never) _ _ _ _ _ c.from_residual-in_err-value.ensures.1 c.in_err-value.ensures
    (λ h. via_fails return_to return_from (λ _. refl) (fails_after c.in_ok-word.word (placed_piece kind.Return) c.in_ok-word.ensures (fails_first h (fixed_piece kind.Semicolon) result_follows)))

pub returns-in_err-expect : goal.returns-in_err-expect
returns-in_err-expect c = exits (λ p. (p.0, option_map (λ e. expression_tree e.value) p.1)) return_parts never (λ _. never) _ _ _ _ _ c.from_residual-in_err-expect.ensures.1 c.in_err-expect.ensures
    (λ h. via_fails return_to return_from (λ _. refl) (fails_after c.in_ok-word.word (placed_piece kind.Return) c.in_ok-word.ensures (fails_second (option_map (λ e. expression_tree e.value) c.in_ok-value.value) maybe_expression_piece c.in_ok-value.ensures result_follows h)))
