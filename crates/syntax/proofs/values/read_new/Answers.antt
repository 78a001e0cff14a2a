use Rattle.std.proofs.Common.{refl}
use Rattle.source.specs.declared.kind.Kind.TheVariants as kind
use Rattle.syntax.specs.Reading.{never}
use Rattle.tree.specs.Values.{new_tree, new_spelling}
use Rattle.syntax.proofs.pieces.Exits.{exits}
use Rattle.syntax.proofs.pieces.Pieces.{next, fails_here, fails_after, via_fails}
use Rattle.syntax.proofs.pieces.CursorLemmas.{fixed_piece, placed_piece}
use Rattle.syntax.proofs.ValueFails.{new_to, new_from, made_piece}
use Rattle.syntax.proofs.values.read_new.Goals as goal

pub returns-in_err-word : goal.returns-in_err-word
returns-in_err-word c = exits new_tree new_spelling never (λ _. never) _ _ _ _ _ c.from_residual.ensures.1 c.in_err-word.ensures
    (λ h. via_fails new_to new_from (λ _. refl) (fails_here h (next (fixed_piece kind.OpenBracket) (next (fixed_piece kind.ExHeap) (next (fixed_piece kind.CloseBracket) made_piece)))))

pub returns-in_err-expect : goal.returns-in_err-expect
returns-in_err-expect c = exits new_tree new_spelling never (λ _. never) _ _ _ _ _ c.from_residual-in_err-expect.ensures.1 c.in_err-expect.ensures
    (λ h. via_fails new_to new_from (λ _. refl) (fails_after c.in_ok-word.word (placed_piece kind.New) c.in_ok-word.ensures (fails_here h (next (fixed_piece kind.ExHeap) (next (fixed_piece kind.CloseBracket) made_piece)))))

pub returns-in_err-expect-2 : goal.returns-in_err-expect-2
returns-in_err-expect-2 c = exits new_tree new_spelling never (λ _. never) _ _ _ _ _ c.from_residual-in_err-expect-2.ensures.1 c.in_err-expect-2.ensures
    (λ h. via_fails new_to new_from (λ _. refl) (fails_after c.in_ok-word.word (placed_piece kind.New) c.in_ok-word.ensures (fails_after tt (fixed_piece kind.OpenBracket) c.in_ok-expect.ensures (fails_here h (next (fixed_piece kind.CloseBracket) made_piece)))))

pub returns-in_err-expect-3 : goal.returns-in_err-expect-3
returns-in_err-expect-3 c = exits new_tree new_spelling never (λ _. never) _ _ _ _ _ c.from_residual-in_err-expect-3.ensures.1 c.in_err-expect-3.ensures
    (λ h. via_fails new_to new_from (λ _. refl) (fails_after c.in_ok-word.word (placed_piece kind.New) c.in_ok-word.ensures (fails_after tt (fixed_piece kind.OpenBracket) c.in_ok-expect.ensures (fails_after tt (fixed_piece kind.ExHeap) c.in_ok-expect-2.ensures (fails_here h made_piece)))))

pub returns-in_err-made : goal.returns-in_err-made
returns-in_err-made c = exits new_tree new_spelling never (λ _. never) _ _ _ _ _ c.from_residual-in_err-made.ensures.1 c.in_err-made.ensures
    (λ h. via_fails new_to new_from (λ _. refl) (fails_after c.in_ok-word.word (placed_piece kind.New) c.in_ok-word.ensures (fails_after tt (fixed_piece kind.OpenBracket) c.in_ok-expect.ensures (fails_after tt (fixed_piece kind.ExHeap) c.in_ok-expect-2.ensures (fails_after tt (fixed_piece kind.CloseBracket) c.in_ok-expect-3.ensures h)))))
