use Rattle.std.proofs.Common.{refl}
use Rattle.syntax.specs.Types.{named_type, endpoint_on, named_at}
use Rattle.syntax.proofs.pieces.Exits.{exits}
use Rattle.syntax.proofs.pieces.Pieces.{fails_here, fails_after, via_fails}
use Rattle.syntax.proofs.pieces.CursorLemmas.{named_piece}
use Rattle.syntax.proofs.definitions.TypeForms.{named_to, named_from, named_tail_piece}
use Rattle.syntax.proofs.types.named_type.Goals as goal

pub returns-in_err-name : goal.returns-in_err-name
returns-in_err-name c = exits (λ x. x) named_type endpoint_on named_at _ _ _ _ _ c.from_residual.ensures.1 c.in_err-name.ensures
    (λ h. via_fails named_to named_from (λ _. refl) (fails_here h named_tail_piece))

pub returns-in_err-tail : goal.returns-in_err-tail
returns-in_err-tail c = exits (λ x. x) named_type endpoint_on named_at _ _ _ _ _ c.from_residual-in_err-tail.ensures.1 c.in_err-tail.ensures
    (λ h. via_fails named_to named_from (λ _. refl) (fails_after c.in_ok-name.name named_piece c.in_ok-name.ensures h))
