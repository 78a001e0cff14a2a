use Rattle.std.proofs.Common.{◌++◌, ◌∙◌, ap, map, sym}
use Rattle.std.proofs.lemmas.List.{take_all}
use Rattle.std.proofs.lemmas.Simd.{map-map}
use Rattle.tree.specs.Trees.{method_tree}
use Rattle.tree.specs.declared.class as made
use Rattle.declarations.proofs.items.add_names.Goals as goal

pub returns : goal.returns
returns c =
    let methods = c.args.methods.now in
    c.loop-method.invariant ∙ ap (λ l. c.args.names.now.items ++ l)
    (ap (map (λ (m : made.Method.Method). m.name)) (take_all c.loop-method.method-index methods c.loop-method-test.false) ∙ sym (map-map (λ m. m.name) method_tree methods))
