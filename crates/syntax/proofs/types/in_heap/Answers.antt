use Rattle.std.proofs.Common.{refl}
use Rattle.source.specs.declared.kind.Kind.TheVariants as kind
use Rattle.syntax.specs.Reading.{never}
use Rattle.tree.specs.Grammar.{in_heap_words}
use Rattle.syntax.proofs.pieces.Exits.{exits}
use Rattle.syntax.proofs.pieces.Pieces.{fails_here, fails_after, via_fails}
use Rattle.syntax.proofs.pieces.CursorLemmas.{fixed_piece}
use Rattle.syntax.proofs.definitions.TypeRules.{in_heap_to, in_heap_from}
use Rattle.syntax.proofs.types.in_heap.Goals as goal

pub returns-in_err-expect : goal.returns-in_err-expect
returns-in_err-expect c = exits (λ x. x) (λ _. in_heap_words) never (λ _. never) _ _ _ _ _ c.from_residual.ensures.1 c.in_err-expect.ensures
    (λ h. via_fails in_heap_to in_heap_from (λ _. refl) (fails_here h (fixed_piece kind.ExHeap)))

pub returns-in_err-expect-2 : goal.returns-in_err-expect-2
returns-in_err-expect-2 c = exits (λ x. x) (λ _. in_heap_words) never (λ _. never) _ _ _ _ _ c.from_residual-in_err-expect-2.ensures.1 c.in_err-expect-2.ensures
    (λ h. via_fails in_heap_to in_heap_from (λ _. refl) (fails_after tt (fixed_piece kind.In) c.in_ok-expect.ensures h))
