use Rattle.std.proofs.Common.{ap, sym, ◌∙◌}
use Rattle.std.specs.Prelude.{option_map}
use Rattle.program.specs.Parts.{contract_model}
use Rattle.resolving.proofs.TypeLemmas.{contract_found, contract_past}
use Rattle.resolving.proofs.types.contract_at.Goals as goal

pub returns-in_err-before : goal.returns-in_err-before
returns-in_err-before c = λ p h.
    ap (option_map (λ k. contract_model k.now)) c.from_residual.ensures ∙ sym (contract_past p c.args.directory.now c.args.index h c.in_err-before.ensures.lookup.3)

pub returns : goal.returns
returns c = λ p h.
    let at = c.in_ok-before.ensures.lookup in
    contract_found p c.args.directory.now c.args.index c.in_ok-before.before.now c.deref.result.now c.get-2.result h at.3.0 at.1 c.deref.ensures.value c.get-2.ensures.lookup.3
