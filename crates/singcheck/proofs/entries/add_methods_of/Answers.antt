use Rattle.std.proofs.Common.{◌∙◌, ◌++◌, List, ℕ, ap, map, sym, take_all}
use Rattle.tree.specs.Trees.{method_tree}
use Rattle.tree.specs.declared.class.Method.{Method}
use Rattle.replays.proofs.LineLemmas.{map_twice}
use Rattle.singcheck.specs.Replays.{full_name}
use Rattle.singcheck.proofs.entries.add_methods_of.Goals as goal

pub returns : goal.returns
returns c =
    let text = c.args.text.now in
    let class = c.args.class.now.name in
    let before = map (λ name. name.items) c.args.names.now.items in
    c.loop-method.invariant
    ∙ ap (λ (l : List Method). before ++ map (λ m. full_name text class (method_tree m)) l)
    (take_all c.loop-method.method-index c.deref-method-items.result.now c.loop-method-test.false ∙ c.deref-method-items.ensures.value)
    ∙ ap (λ (l : List (List ℕ)). before ++ l) (sym (map_twice (full_name text class) method_tree c.args.class.now.methods.items))
