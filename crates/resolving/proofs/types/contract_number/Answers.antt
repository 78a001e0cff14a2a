use Rattle.std.proofs.Common.{ap, sym, ◌∙◌}
use Rattle.std.specs.Prelude.{None, option_map}
use Rattle.resolving.specs.Types.{contract_number}
use Rattle.resolving.proofs.TypeLemmas.{contract_found, contract_past, number_found}
use Rattle.resolving.proofs.types.contract_number.Goals as goal

pub returns-in_err-before : goal.returns-in_err-before
returns-in_err-before c = λ p h.
    c.from_residual.ensures ∙ sym (ap (option_map (λ k. contract_number p c.args.index)) (contract_past p c.args.directory.now c.args.index h c.in_err-before.ensures.lookup.3))

pub returns-in_err-_contract : goal.returns-in_err-_contract
returns-in_err-_contract c = λ p h.
    let at = c.in_ok-before.ensures.lookup in
    c.from_residual-in_err-_contract.ensures ∙ ap (option_map (λ k. contract_number p c.args.index))
    (contract_found p c.args.directory.now c.args.index c.in_ok-before.before.now c.deref.result.now None h at.3.0 at.1 c.deref.ensures.value c.in_err-_contract.ensures.lookup.3)

pub returns : goal.returns
returns c = λ p h.
    let at = c.in_ok-before.ensures.lookup in
    number_found p c.args.directory.now c.args.index c.in_ok-before.before.now c.deref.result.now c.in_ok-_contract._contract h at.3.0 at.1 c.deref.ensures.value c.in_ok-_contract.ensures.lookup.3
