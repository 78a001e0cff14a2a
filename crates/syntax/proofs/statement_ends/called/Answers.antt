use Rattle.std.proofs.Common.{refl}
use Rattle.source.specs.declared.kind.Kind.TheVariants as kind
use Rattle.syntax.specs.Reading.{never}
use Rattle.syntax.proofs.pieces.Exits.{exits}
use Rattle.syntax.proofs.pieces.Pieces.{fails_here, fails_after, via_fails}
use Rattle.syntax.proofs.pieces.CursorLemmas.{fixed_piece}
use Rattle.syntax.specs.StatementParts.{called, called_tree}
use Rattle.syntax.proofs.PlainRules.{called_to, called_from}
use Rattle.syntax.proofs.ValueRules.{arguments_piece}
use Rattle.syntax.proofs.statement_ends.called.Goals as goal

pub returns-in_err-arguments : goal.returns-in_err-arguments
returns-in_err-arguments c = exits called_tree called never (λ _. never) _ _ _ _ _ c.from_residual.ensures.1 c.in_err-arguments.ensures
    (λ h. via_fails called_to called_from (λ _. refl) (fails_here h (fixed_piece kind.Semicolon)))

pub returns-in_err-expect : goal.returns-in_err-expect
returns-in_err-expect c = exits called_tree called never (λ _. never) _ _ _ _ _ c.from_residual-in_err-expect.ensures.1 c.in_err-expect.ensures
    (λ h. via_fails called_to called_from (λ _. refl) (fails_after (called_tree c.in_ok-arguments.arguments) arguments_piece c.in_ok-arguments.ensures h))
