use Rattle.std.proofs.Common.{refl}
use Rattle.syntax.specs.Reading.{never}
use Rattle.syntax.specs.Types.{bang_in_heap}
use Rattle.syntax.proofs.pieces.Exits.{exits}
use Rattle.syntax.proofs.pieces.Pieces.{fails_second, via_fails}
use Rattle.syntax.proofs.definitions.TypeRules.{bang_to, bang_from, bang_piece, bang_follows}
use Rattle.syntax.proofs.types.bang_in_heap.Goals as goal

pub returns-in_err-in_heap : goal.returns-in_err-in_heap
returns-in_err-in_heap c = exits (λ x. x) bang_in_heap never (λ _. never) _ _ _ _ _ c.from_residual.ensures.1 c.in_err-in_heap.ensures
    (λ h. via_fails bang_to bang_from (λ _. refl) (fails_second c.placed_if-bang.result bang_piece c.placed_if-bang.ensures bang_follows h))
