use Rattle.std.proofs.Common.{sym, subst}
use Rattle.std.specs.Prelude.{option_map}
use Rattle.declarations.specs.Program.{item_at, as_contract}
use Rattle.declarations.specs.Scopes.{IsContract}
use Rattle.declarations.proofs.ScopeLemmas.{contract_at, contract_model}
use Rattle.declarations.proofs.scope.Scope.contract_at.Goals as goal

pub returns : goal.returns
returns c = λ p h.
    let n = c.args.index in
    contract_model p.text (item_at as_contract p n) n c.declared_at.result
    (subst (λ o. IsContract p.text (item_at as_contract p n) (option_map (λ d. (n, d)) o)) (sym c.declared_at.ensures)
    (contract_at p.text p.items c.args.self.now.members.items n n h.members))
