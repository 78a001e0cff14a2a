use Rattle.std.proofs.Common.{◌≡◌, map, take}
use Rattle.tree.specs.Trees.{definition_tree, defined_name}
use Rattle.declarations.proofs.scope.names_of_items.Given as goal

abbrev pub invariant-loop-item : goal.invariant-loop-item
invariant-loop-item l = l.names.items ≡ map (λ i. defined_name (definition_tree i.definition)) (take l.item-index l.items)
