-- The methods of items, item by item.
use Rattle.std.proofs.Common.{◌≡◌, List, [], ◌∷◌, ◌++◌, map, sym, refl, ap, ◌∙◌}
use Rattle.std.specs.List.{flat_map}
use Rattle.std.proofs.lemmas.List.{map-append}
use Rattle.tree.specs.Trees.{ItemTree, MethodTree, item_tree, definition_tree}
use Rattle.tree.specs.declared.item as tree
use Rattle.declarations.specs.ItemMistakes.{methods_in}

-- the names of all methods
pub names_within : (items : List tree.Item.Item) → flat_map (λ i. map (λ (m : MethodTree). m.name) (methods_in (definition_tree i.definition))) items ≡ map (λ (m : MethodTree). m.name) (flat_map (λ (i : ItemTree). methods_in i.definition) (map item_tree items))
names_within [] = refl
names_within (i ∷ items) =
    ap (λ l. map (λ (m : MethodTree). m.name) (methods_in (definition_tree i.definition)) ++ l) (names_within items)
    ∙ sym (map-append (λ (m : MethodTree). m.name) (methods_in (definition_tree i.definition)) (flat_map (λ (j : ItemTree). methods_in j.definition) (map item_tree items)))
