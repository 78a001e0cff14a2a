use Rattle.std.proofs.Common.{None, Some, ap, ◌∙◌}
use Rattle.std.specs.Prelude.{option_and_then, option_map, slice_get}
use Rattle.program.specs.Parts.{contract_model}
use Rattle.resolving.proofs.TypeLemmas.{state_found}
use Rattle.resolving.proofs.types.named_state.Goals as goal

pub returns-in_err-state : goal.returns-in_err-state
returns-in_err-state c = λ p h.
    let contract = c.args.contract.now in
    c.from_residual-in_err-state.ensures
    ∙ state_found contract c.deref.result.now c.in_ok-at.at None c.deref.ensures.value c.in_err-state.ensures.lookup.3
    ∙ ap (λ at. option_map (λ s. s.id) (option_and_then (slice_get (contract_model contract).parts.states) at)) (c.in_ok-at.ensures p h.scope)

pub returns : goal.returns
returns c = λ p h.
    let contract = c.args.contract.now in
    state_found contract c.deref.result.now c.in_ok-at.at (Some c.in_ok-state.state) c.deref.ensures.value c.in_ok-state.ensures.lookup.3
    ∙ ap (λ at. option_map (λ s. s.id) (option_and_then (slice_get (contract_model contract).parts.states) at)) (c.in_ok-at.ensures p h.scope)
