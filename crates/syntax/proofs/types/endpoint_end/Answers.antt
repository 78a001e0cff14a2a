use Rattle.syntax.specs.Types.{endpoint_end, endpoint_on, endpoint_at}
use Rattle.syntax.proofs.pieces.Exits.{exits}
use Rattle.syntax.proofs.definitions.EndpointRules.{side_fails, colon_fails, in_heap_fails}
use Rattle.syntax.proofs.types.endpoint_end.Goals as goal

pub returns-in_err-side : goal.returns-in_err-side
returns-in_err-side c = exits (λ x. x) endpoint_end endpoint_on endpoint_at _ _ _ _ _ c.from_residual.ensures.1 c.in_err-side.ensures
    (λ h. side_fails h)

pub returns-in_err-state : goal.returns-in_err-state
returns-in_err-state c = exits (λ x. x) endpoint_end endpoint_on endpoint_at _ _ _ _ _ c.from_residual-in_err-state.ensures.1 c.in_err-state.ensures
    (λ h. colon_fails c.in_ok-side.side c.in_ok-side.ensures h)

pub returns-in_err-in_heap : goal.returns-in_err-in_heap
returns-in_err-in_heap c = exits (λ x. x) endpoint_end endpoint_on endpoint_at _ _ _ _ _ c.from_residual-in_err-in_heap.ensures.1 c.in_err-in_heap.ensures
    (λ h. in_heap_fails c.in_ok-side.side c.in_ok-state.state c.placed_if-bang.result c.in_ok-side.ensures c.in_ok-state.ensures c.placed_if-bang.ensures h)
