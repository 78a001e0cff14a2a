use Rattle.std.proofs.Common.{refl}
use Rattle.source.specs.declared.kind.Kind.TheVariants as kind
use Rattle.syntax.specs.Reading.{never}
use Rattle.syntax.specs.Types.{pointer_tail}
use Rattle.syntax.proofs.pieces.Exits.{exits}
use Rattle.syntax.proofs.pieces.Pieces.{fails_here, fails_after, via_fails}
use Rattle.syntax.proofs.pieces.CursorLemmas.{fixed_piece}
use Rattle.syntax.proofs.definitions.TypeRules.{pointer_to, pointer_from, bang_in_heap_piece}
use Rattle.syntax.proofs.types.pointer_tail.Goals as goal

pub returns-in_err-expect : goal.returns-in_err-expect
returns-in_err-expect c = exits (λ x. x) pointer_tail never (λ _. never) _ _ _ _ _ c.from_residual.ensures.1 c.in_err-expect.ensures
    (λ h. via_fails pointer_to pointer_from (λ _. refl) (fails_here h bang_in_heap_piece))

pub returns-in_err-bang : goal.returns-in_err-bang
returns-in_err-bang c = exits (λ x. x) pointer_tail never (λ _. never) _ _ _ _ _ c.from_residual-in_err-bang.ensures.1 c.in_err-bang.ensures
    (λ h. via_fails pointer_to pointer_from (λ _. refl) (fails_after tt (fixed_piece kind.Star) c.in_ok-expect.ensures h))
