use Rattle.std.proofs.Common.{rules, tests}
use Rattle.std.proofs.lemmas.Iterator.{YieldsList-from_slice}
use Rattle.std.proofs.lemmas.Iterator.Search.{find_from_yields_List}
use Rattle.tables.specs.Words.{same_word, word_at}
use Rattle.tree.specs.Trees.{definition_tree, item_tree, defined_name}
use Rattle.remarks.proofs.AroundLemmas.{first_seen}
use Rattle.remarks.proofs.listing.ItemListing.item_named.Goals as goal

pub returns : goal.returns
returns c =
    first_seen item_tree c.args.self.now.text.now (λ i. defined_name i.definition) (same_word (word_at c.args.self.now.text.now c.args.name)) c.args.self.now.items.now c.find.result
    (find_from_yields_List (λ i. same_word (word_at c.args.self.now.text.now c.args.name) (word_at c.args.self.now.text.now (defined_name (definition_tree i.definition)))) _ _
    c.find.result c.find.ensures.ran (YieldsList-from_slice c.args.self.now.items.now cc) (λ x b q k. search (rules, tests)))
