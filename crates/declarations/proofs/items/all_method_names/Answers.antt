use Rattle.std.proofs.Common.{◌∙◌, ap, map}
use Rattle.std.specs.List.{flat_map}
use Rattle.std.proofs.lemmas.List.{take_all}
use Rattle.tree.specs.Trees.{MethodTree, definition_tree}
use Rattle.tree.specs.declared.item as tree
use Rattle.declarations.specs.ItemMistakes.{methods_in}
use Rattle.declarations.proofs.MethodLemmas.{names_within}
use Rattle.declarations.proofs.items.all_method_names.Goals as goal

pub returns : goal.returns
returns c =
    c.loop-item.invariant
    ∙ ap (flat_map (λ (i : tree.Item.Item). map (λ (m : MethodTree). m.name) (methods_in (definition_tree i.definition)))) (take_all c.loop-item.item-index c.args.items.now c.loop-item-test.false)
    ∙ names_within c.args.items.now
