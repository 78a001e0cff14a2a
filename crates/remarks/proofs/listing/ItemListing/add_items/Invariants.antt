use Rattle.std.proofs.Common.{◌≡◌, ◌++◌, take}
use Rattle.std.specs.List.{flat_map}
use Rattle.tree.specs.Trees.{definition_tree}
use Rattle.remarks.specs.Listings.{name_of_sort}
use Rattle.remarks.proofs.listing.ItemListing.add_items.Given as goal

abbrev pub invariant-loop-item : goal.invariant-loop-item
invariant-loop-item l = l.names.items ≡ l.fn.names.items ++ flat_map (λ i. name_of_sort l.sort (definition_tree i.definition)) (take l.item-index l.item-items)
