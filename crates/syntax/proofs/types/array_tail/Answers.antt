use Rattle.std.proofs.Common.{refl}
use Rattle.source.specs.declared.kind.Kind.TheVariants as kind
use Rattle.syntax.specs.Reading.{never}
use Rattle.syntax.specs.Types.{array_tail}
use Rattle.syntax.proofs.pieces.Exits.{exits}
use Rattle.syntax.proofs.pieces.Pieces.{fails_here, fails_after, via_fails, next}
use Rattle.syntax.proofs.pieces.CursorLemmas.{fixed_piece}
use Rattle.syntax.proofs.definitions.TypeRules.{array_to, array_from, bang_in_heap_piece}
use Rattle.syntax.proofs.types.array_tail.Goals as goal

pub returns-in_err-expect : goal.returns-in_err-expect
returns-in_err-expect c = exits (λ x. x) array_tail never (λ _. never) _ _ _ _ _ c.from_residual.ensures.1 c.in_err-expect.ensures
    (λ h. via_fails array_to array_from (λ _. refl) (fails_here h (next (fixed_piece kind.CloseBracket) bang_in_heap_piece)))

pub returns-in_err-expect-2 : goal.returns-in_err-expect-2
returns-in_err-expect-2 c = exits (λ x. x) array_tail never (λ _. never) _ _ _ _ _ c.from_residual-in_err-expect-2.ensures.1 c.in_err-expect-2.ensures
    (λ h. via_fails array_to array_from (λ _. refl) (fails_after tt (fixed_piece kind.OpenBracket) c.in_ok-expect.ensures (fails_here h bang_in_heap_piece)))

pub returns-in_err-bang : goal.returns-in_err-bang
returns-in_err-bang c = exits (λ x. x) array_tail never (λ _. never) _ _ _ _ _ c.from_residual-in_err-bang.ensures.1 c.in_err-bang.ensures
    (λ h. via_fails array_to array_from (λ _. refl) (fails_after tt (fixed_piece kind.OpenBracket) c.in_ok-expect.ensures (fails_after tt (fixed_piece kind.CloseBracket) c.in_ok-expect-2.ensures h)))
