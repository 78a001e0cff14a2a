use Rattle.std.proofs.Common.{sym, subst}
use Rattle.std.specs.Prelude.{option_map}
use Rattle.declarations.specs.Program.{item_at, as_struct}
use Rattle.declarations.specs.Scopes.{IsStruct}
use Rattle.declarations.proofs.ScopeLemmas.{struct_at, struct_model}
use Rattle.declarations.proofs.scope.Scope.structure_at.Goals as goal

pub returns : goal.returns
returns c = λ p h.
    let n = c.args.index in
    struct_model p.text (item_at as_struct p n) n c.fields_at.result
    (subst (λ o. IsStruct p.text (item_at as_struct p n) (option_map (λ f. (n, f)) o)) (sym c.fields_at.ensures)
    (struct_at p.text p.items c.args.self.now.members.items n n h.members))
