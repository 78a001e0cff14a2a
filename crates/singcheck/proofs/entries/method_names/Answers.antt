use Rattle.std.proofs.Common.{◌∙◌, ◌++◌, ap, sym, take_all}
use Rattle.std.proofs.lemmas.List.Folds.{flat_map-map}
use Rattle.std.specs.List.{flat_map}
use Rattle.tree.specs.Trees.{ItemTree, definition_tree, item_tree}
use Rattle.tree.specs.declared.item.Item.{Item}
use Rattle.singcheck.specs.Replays.{names_in}
use Rattle.singcheck.proofs.EntryLemmas.{rows_more}
use Rattle.singcheck.proofs.entries.method_names.Goals as goal

pub loop-item-preserved : goal.loop-item-preserved
loop-item-preserved c =
    let row = λ (i : Item). names_in c.args.text.now (definition_tree i.definition) in
    c.in_ok-add_methods.ensures ∙ ap (λ l. l ++ row c.item-item.result) c.loop-item.invariant ∙ sym (rows_more row c.deref-item-items.result.now c.loop-item.item-index c.item-item.result c.loop-item-test.true c.item-item.is)

pub returns : goal.returns
returns c =
    let text = c.args.text.now in
    let row = λ (i : Item). names_in text (definition_tree i.definition) in
    c.loop-item.invariant ∙ ap (flat_map row) (take_all c.loop-item.item-index c.deref-item-items.result.now c.loop-item-test.false ∙ c.deref-item-items.ensures.value)
    ∙ sym (flat_map-map (λ (i : ItemTree). names_in text i.definition) item_tree c.args.tree.now.items.items)
