use Rattle.std.proofs.Common.{arith, length, sym, ap, ◌∙◌, ◌++◌, ◌∷◌, []}
use Rattle.std.proofs.lemmas.List.{length-map}
use Rattle.tree.specs.Trees.{item_tree, method_tree}
use Rattle.resolving.specs.declared.counts.ItemsBefore.{ItemsBefore}
use Rattle.resolving.proofs.CountLemmas.{behind_item, count_more, counted, counted_more}
use Rattle.resolving.proofs.counts.count_items.Goals as goal

pub overflow_add-so_far : goal.overflow_add-so_far
overflow_add-so_far c =
    let behind = behind_item c.args.items.now c.loop-item.item-index c.item-item.result c.loop-item-test.true c.item-item.is in
    let many = sym (length-map c.methods_of.result.now method_tree) ∙ ap length c.methods_of.ensures in
    let here = ap (λ (b : ItemsBefore). b.methods) c.loop-item.invariant.here in
    omega (arith, behind.methods, behind.few_methods, many, here, c.requires.few)

pub overflow_add-so_far-in-loop-item : goal.overflow_add-so_far-in-loop-item
overflow_add-so_far-in-loop-item c =
    let behind = behind_item c.args.items.now c.loop-item.item-index c.item-item.result c.loop-item-test.true c.item-item.is in
    let here = ap (λ (b : ItemsBefore). b.contracts) c.loop-item.invariant.here in
    omega (arith, behind.contracts, behind.few_contracts, here, c.contracts_in.ensures)

pub overflow_add-so_far-in-loop-item-2 : goal.overflow_add-so_far-in-loop-item-2
overflow_add-so_far-in-loop-item-2 c =
    let behind = behind_item c.args.items.now c.loop-item.item-index c.item-item.result c.loop-item-test.true c.item-item.is in
    let here = ap (λ (b : ItemsBefore). b.structs) c.loop-item.invariant.here in
    omega (arith, behind.structs, behind.few_structs, here, c.structs_in.ensures)

pub loop-item-preserved : goal.loop-item-preserved
loop-item-preserved c =
    let items = c.args.items.now in
    let n = c.loop-item.item-index in
    let behind = behind_item items n c.item-item.result c.loop-item-test.true c.item-item.is in
    let many = sym (length-map c.methods_of.result.now method_tree) ∙ ap length c.methods_of.ensures in
    let invariant = c.loop-item.invariant in
    record {
      items = c.in_ok-push.ensures.items ∙ ap (λ l. l ++ c.loop-item.so_far ∷ []) invariant.items ∙ ap (λ b. counted items n ++ b ∷ []) invariant.here ∙ sym (counted_more items n);
      here = count_more items n c.item-item.result c.loop-item.so_far (length c.methods_of.result.now) c.contracts_in.result c.structs_in.result behind invariant.here many c.contracts_in.ensures c.structs_in.ensures;
    }

pub returns : goal.returns
returns c =
    let items = c.args.items.now in
    let long = length-map items item_tree in
    let end = c.loop-item.auto.item-index-end in
    c.loop-item.invariant.items ∙ ap (counted items) (let past = c.loop-item-test.false in omega (arith, long, past, end))
