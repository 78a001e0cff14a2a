use Rattle.std.proofs.Common.{map, ap, ◌∙◌, sym}
use Rattle.std.proofs.lemmas.List.{take_all}
use Rattle.std.proofs.lemmas.Simd.{map-map}
use Rattle.tree.specs.Trees.{MethodTree, method_tree}
use Rattle.tree.specs.declared.class as made
use Rattle.remarks.proofs.candidates.method_names.Goals as goal

pub returns : goal.returns
returns c =
    rw c.in-Some.is
    (c.loop-method.invariant
    ∙ ap (map (λ (m : made.Method.Method). m.name)) (take_all c.loop-method.method-index c.deref-method-items.result.now c.loop-method-test.false ∙ c.deref-method-items.ensures.value)
    ∙ sym (map-map (λ (m : MethodTree). m.name) method_tree c.in-Some.class.now.methods.items))
