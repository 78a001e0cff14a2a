use Rattle.syntax.specs.Types.{endpoint_tail, endpoint_on, endpoint_at}
use Rattle.source.specs.declared.kind.Kind.TheVariants as kind
use Rattle.std.proofs.Common.{refl}
use Rattle.syntax.proofs.pieces.Exits.{exits}
use Rattle.syntax.proofs.pieces.Pieces.{fails_here, fails_after, via_fails}
use Rattle.syntax.proofs.pieces.CursorLemmas.{fixed_piece}
use Rattle.syntax.proofs.definitions.EndpointRules.{dot_to, dot_from, endpoint_end_piece}
use Rattle.syntax.proofs.types.endpoint_tail.Goals as goal

pub returns-in_err-expect : goal.returns-in_err-expect
returns-in_err-expect c = exits (λ x. x) endpoint_tail endpoint_on endpoint_at _ _ _ _ _ c.from_residual.ensures.1 c.in_err-expect.ensures
    (λ h. via_fails dot_to dot_from (λ _. refl) (fails_here h endpoint_end_piece))

pub returns-in_err-endpoint_end : goal.returns-in_err-endpoint_end
returns-in_err-endpoint_end c = exits (λ x. x) endpoint_tail endpoint_on endpoint_at _ _ _ _ _ c.from_residual-in_err-endpoint_end.ensures.1 c.in_err-endpoint_end.ensures
    (λ h. via_fails dot_to dot_from (λ _. refl) (fails_after tt (fixed_piece kind.Dot) c.in_ok-expect.ensures h))
