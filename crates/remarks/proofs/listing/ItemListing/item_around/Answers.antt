use Rattle.std.proofs.Common.{rules, tests}
use Rattle.std.proofs.lemmas.Iterator.Adapters.{YieldsList-from_rev_slice}
use Rattle.std.proofs.lemmas.Iterator.Search.{find_from_yields_List}
use Rattle.nearest.specs.Locals.{is_before}
use Rattle.tree.specs.Trees.{definition_tree, item_tree, defined_name}
use Rattle.remarks.proofs.AroundLemmas.{last_seen}
use Rattle.remarks.proofs.listing.ItemListing.item_around.Goals as goal

pub returns : goal.returns
returns c =
    last_seen item_tree (λ i. is_before (defined_name i.definition).place c.args.place) c.args.self.now.items.now c.find.result
    (find_from_yields_List (λ i. is_before (defined_name (definition_tree i.definition)).place c.args.place) _ _ c.find.result c.find.ensures.ran
    (YieldsList-from_rev_slice c.args.self.now.items.now cc) (λ x b q k. search (rules, tests)))
