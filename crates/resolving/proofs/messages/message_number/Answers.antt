use Rattle.std.proofs.Common.{Some, ap, ◌∙◌}
use Rattle.std.specs.Prelude.{option_and_then, option_map, slice_get}
use Rattle.resolving.proofs.TypeLemmas.{message_found}
use Rattle.resolving.proofs.messages.message_number.Goals as goal

pub returns : goal.returns
returns c = λ p h.
    let index = c.args.index in
    message_found c.in_ok-contract_at.field-0.now c.deref.result.now index (Some c.in_ok-numbered.numbered) c.deref.ensures.value c.in_ok-numbered.ensures.lookup.3
    ∙ ap (λ contract. option_map (λ m. m.id) (option_and_then (λ k. slice_get k.parts.messages index) contract)) (c.in_ok-contract_at.ensures p h)
