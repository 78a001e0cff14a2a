use Rattle.std.proofs.Common.{refl}
use Rattle.source.specs.declared.kind.Kind.TheVariants as kind
use Rattle.syntax.specs.Reading.{never}
use Rattle.syntax.proofs.pieces.Exits.{exits}
use Rattle.syntax.proofs.pieces.Pieces.{fails_here, fails_after, via_fails}
use Rattle.syntax.proofs.pieces.CursorLemmas.{fixed_piece, placed_piece}
use Rattle.syntax.specs.StatementParts.{jump}
use Rattle.syntax.proofs.PlainRules.{jump_to, jump_from}
use Rattle.syntax.proofs.statement_ends.jump.Goals as goal

pub returns-in_err-word : goal.returns-in_err-word
returns-in_err-word c = exits (λ x. x) (jump c.args.kind) never (λ _. never) _ _ _ _ _ c.from_residual.ensures.1 c.in_err-word.ensures
    (λ h. via_fails jump_to jump_from (λ _. refl) (fails_here h (fixed_piece kind.Semicolon)))

pub returns-in_err-expect : goal.returns-in_err-expect
returns-in_err-expect c = exits (λ x. x) (jump c.args.kind) never (λ _. never) _ _ _ _ _ c.from_residual-in_err-expect.ensures.1 c.in_err-expect.ensures
    (λ h. via_fails jump_to jump_from (λ _. refl) (fails_after c.in_ok-word.word (placed_piece c.args.kind) c.in_ok-word.ensures h))
