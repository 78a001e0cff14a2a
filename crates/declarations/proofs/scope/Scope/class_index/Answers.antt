use Rattle.std.proofs.Common.{ap, ◌∙◌, sym}
use Rattle.std.specs.Prelude.{option_and_then, option_map}
use Rattle.tree.specs.Trees.{ClassTree}
use Rattle.declarations.specs.Program.{Numbered, item_at, as_class}
use Rattle.declarations.proofs.ClassLemmas.{class_missing, class_here}
use Rattle.declarations.proofs.scope.Scope.class_index.Goals as goal

pub returns-in_err-_methods : goal.returns-in_err-_methods
returns-in_err-_methods c = λ p h.
    let none = class_missing p c.args.self.now.members.items c.in_ok-index.index h.members c.in_err-_methods.ensures in
    c.from_residual-in_err-_methods.ensures
    ∙ sym (ap (λ o. option_map (λ (s : Numbered ClassTree). s.0) (option_and_then (item_at as_class p) o)) (sym (c.in_ok-index.ensures p h)) ∙ ap (option_map (λ (s : Numbered ClassTree). s.0)) none)

pub returns : goal.returns
returns c = λ p h.
    let here = class_here p c.args.self.now.members.items c.in_ok-index.index c.in_ok-_methods._methods.now h.members c.in_ok-_methods.ensures in
    sym (ap (λ o. option_map (λ (s : Numbered ClassTree). s.0) (option_and_then (item_at as_class p) o)) (sym (c.in_ok-index.ensures p h)) ∙ ap (option_map (λ (s : Numbered ClassTree). s.0)) here.is)
