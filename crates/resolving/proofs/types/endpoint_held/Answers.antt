use Rattle.std.proofs.Common.{Some, ap, sym, ◌∙◌}
use Rattle.std.specs.Prelude.{option_map}
use Rattle.program.specs.declared.types.HeapType.TheVariants.{Endpoint}
use Rattle.resolving.specs.Types.{contract_number, state_of}
use Rattle.resolving.proofs.types.endpoint_held.Goals as goal

pub returns : goal.returns
returns c = λ p h.
    let index = c.args.index in
    let side = c.args.side in
    let contract = c.in_ok-contract.ensures p h in
    let number = c.in_ok-number.ensures p h ∙ ap (option_map (λ k. contract_number p index)) (sym contract) in
    ap (option_map (λ n. Endpoint n side c.state_of.result)) number
    ∙ ap (λ state. Some (Endpoint (contract_number p index) side state)) (c.state_of.ensures p h)
    ∙ ap (option_map (λ k. Endpoint (contract_number p index) side (state_of p index k c.args.state))) contract
