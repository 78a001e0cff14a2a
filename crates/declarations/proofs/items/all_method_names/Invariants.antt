use Rattle.std.proofs.Common.{◌≡◌, map, take}
use Rattle.std.specs.List.{flat_map}
use Rattle.tree.specs.Trees.{definition_tree}
use Rattle.declarations.specs.ItemMistakes.{methods_in}
use Rattle.declarations.proofs.items.all_method_names.Given as goal

abbrev pub invariant-loop-item : goal.invariant-loop-item
invariant-loop-item l = l.names.items ≡ flat_map (λ i. map (λ m. m.name) (methods_in (definition_tree i.definition))) (take l.item-index l.items)
