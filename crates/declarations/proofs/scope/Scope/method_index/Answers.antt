use Rattle.std.proofs.Common.{ap, ◌∙◌, map, sym, subst}
use Rattle.std.specs.Prelude.{option_and_then}
use Rattle.tree.specs.Trees.{ClassTree}
use Rattle.declarations.specs.Declarations.{first_among}
use Rattle.declarations.specs.Program.{Numbered}
use Rattle.declarations.specs.Scopes.{AreMethods}
use Rattle.declarations.proofs.ClassLemmas.{class_missing, class_here}
use Rattle.declarations.proofs.scope.Scope.method_index.Goals as goal

pub returns-in_err-methods : goal.returns-in_err-methods
returns-in_err-methods c = λ p h.
    let none = class_missing p c.args.self.now.members.items c.args.class h.members c.in_err-methods.ensures in
    c.from_residual.ensures ∙ sym (ap (option_and_then (λ (s : Numbered ClassTree). first_among p.text (map (λ m. m.name) s.1.methods) c.args.name)) none)

pub returns : goal.returns
returns c = λ p h.
    let here = class_here p c.args.self.now.members.items c.args.class c.in_ok-methods.methods.now h.members c.in_ok-methods.ensures in
    c.index_of.ensures here.class (subst (λ t. AreMethods t here.class c.in_ok-methods.methods.now) (sym h.text_is) here.methods)
    ∙ ap (λ t. first_among t (map (λ m. m.name) here.class.methods) c.args.name) h.text_is
    ∙ sym (ap (option_and_then (λ (s : Numbered ClassTree). first_among p.text (map (λ m. m.name) s.1.methods) c.args.name)) here.is)
