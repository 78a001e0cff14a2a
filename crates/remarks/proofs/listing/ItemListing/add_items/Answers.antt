use Rattle.std.proofs.Common.{◌++◌, ap, ◌∙◌, sym}
use Rattle.std.specs.List.{flat_map}
use Rattle.std.proofs.lemmas.List.{take_all}
use Rattle.std.proofs.lemmas.List.Folds.{flat_map-map}
use Rattle.tree.specs.Trees.{definition_tree, item_tree}
use Rattle.remarks.specs.Listings.{name_of_sort}
use Rattle.remarks.proofs.listing.ItemListing.add_items.Goals as goal

pub returns : goal.returns
returns c =
    let items = c.args.self.now.items.now in
    c.loop-item.invariant
    ∙ ap (λ l. c.args.names.now.items ++ l)
    (ap (flat_map (λ i. name_of_sort c.args.sort (definition_tree i.definition))) (take_all c.loop-item.item-index items c.loop-item-test.false)
    ∙ sym (flat_map-map (λ i. name_of_sort c.args.sort i.definition) item_tree items))
