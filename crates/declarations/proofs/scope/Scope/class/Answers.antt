use Rattle.std.proofs.Common.{sym, subst}
use Rattle.std.specs.Prelude.{option_and_then}
use Rattle.std.specs.Option.{option_copied}
use Rattle.declarations.specs.Program.{item_at, as_class, class_named}
use Rattle.declarations.specs.Scopes.{IsClass}
use Rattle.declarations.proofs.ScopeLemmas.{class_at, class_model}
use Rattle.declarations.proofs.scope.Scope.class.Goals as goal

pub returns : goal.returns
returns c = λ p h.
    let n = c.in_ok-index.index in
    class_model p.text (class_named p c.args.name) c.methods_at.result
    (subst (λ o. IsClass p.text (option_and_then (item_at as_class p) o) (option_copied c.methods_at.result)) (c.in_ok-index.ensures p h)
    (subst (IsClass p.text (item_at as_class p n)) (sym c.methods_at.ensures)
    (class_at p.text p.items c.args.self.now.members.items n n h.members)))
