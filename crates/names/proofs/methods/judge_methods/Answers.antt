use Rattle.std.proofs.Common.{◌∙◌, ap, map, sym, subst}
use Rattle.std.specs.List.{flat_map}
use Rattle.std.proofs.lemmas.List.{take_all}
use Rattle.std.proofs.lemmas.List.Folds.{flat_map-map}
use Rattle.tree.specs.Trees.{MethodTree, method_tree}
use Rattle.tree.specs.declared.class as made
use Rattle.declarations.specs.Mistakes.{Adds}
use Rattle.names.specs.Methods.{method_turn}
use Rattle.names.proofs.methods.judge_methods.Goals as goal

pub returns : goal.returns
returns c = λ p k h j.
    let methods = c.list-method-items.result.now in
    subst (Adds c.args.found.now.items c.loop-method.found.items)
    (ap (flat_map (λ (m : made.Method.Method). (method_turn p k (method_tree m)).found)) (take_all c.loop-method.method-index methods c.loop-method-test.false)
    ∙ sym (flat_map-map (λ (m : MethodTree). (method_turn p k m).found) method_tree methods)
    ∙ ap (flat_map (λ (m : MethodTree). (method_turn p k m).found)) (ap (map method_tree) c.list-method-items.ensures ∙ j.list))
    (c.loop-method.invariant p k h j)
