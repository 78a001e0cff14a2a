use Rattle.std.proofs.Common.{arith, ap, length, map, refl, ◌∙◌}
use Rattle.std.proofs.lemmas.List.{length-map}
use Rattle.std.proofs.lemmas.Option.{slice_get_read}
use Rattle.tree.specs.Trees.{item_tree}
use Rattle.resolving.specs.Around.{program_in}
use Rattle.resolving.specs.declared.counts.ItemsBefore.{ItemsBefore}
use Rattle.resolving.proofs.CalleeLemmas.{callee_is}
use Rattle.resolving.proofs.CountLemmas.{count_read, counts_long, number_few}
use Rattle.resolving.proofs.calls.method_at.Goals as goal

pub returns-in_err-before : goal.returns-in_err-before
returns-in_err-before c = λ items own h.
    let around = c.args.around.now in
    let trees = map item_tree around.items.now in
    let long = ap length around.counted ∙ counts_long trees ∙ length-map around.items.now item_tree in
    let within = c.in_ok-item.ensures.lookup.3.0 in
    let past = c.in_err-before.ensures.lookup.3 in
    absurd (omega (arith, long, within, past))

pub overflow_add-result : goal.overflow_add-result
overflow_add-result c =
    let around = c.args.around.now in
    let item = c.in_ok-item.ensures.lookup in
    let before = c.in_ok-before.ensures.lookup in
    let few =
    number_few around.items.now around.directory.before.now c.args.class c.in_ok-place.place c.in_ok-before.before.now c.in_ok-item.item.now c.methods_of.result.now around.few around.counted before.3.0 before.1
    item.3.0 item.1 c.methods_of.ensures c.in_ok-method.ensures.lookup.3.0 in
    omega (arith, few)

pub overflow_cast-result : goal.overflow_cast-result
overflow_cast-result c =
    let around = c.args.around.now in
    let item = c.in_ok-item.ensures.lookup in
    let before = c.in_ok-before.ensures.lookup in
    let few =
    number_few around.items.now around.directory.before.now c.args.class c.in_ok-place.place c.in_ok-before.before.now c.in_ok-item.item.now c.methods_of.result.now around.few around.counted before.3.0 before.1
    item.3.0 item.1 c.methods_of.ensures c.in_ok-method.ensures.lookup.3.0 in
    omega (arith, few)

pub returns : goal.returns
returns c = λ items own h.
    let around = c.args.around.now in
    let p = program_in c.args.text.now items in
    let item = c.in_ok-item.ensures.lookup in
    let method = c.in_ok-method.ensures.lookup in
    let before = c.in_ok-before.ensures.lookup in
    let b = c.in_ok-before.before.now in
    callee_is p c.args.class c.args.name c.in_ok-place.place b.methods around.items.now c.in_ok-item.item.now c.methods_of.result.now c.in_ok-method.method.now h.items (c.in_ok-place.ensures p h.directory.scope)
    (slice_get_read around.items.now _ c.args.class c.in_ok-item.item.now refl item.3.0 item.1) c.methods_of.ensures
    (slice_get_read c.methods_of.result.now _ c.in_ok-place.place c.in_ok-method.method.now refl method.3.0 method.1)
    (ap (λ (x : ItemsBefore). x.methods) (count_read (map item_tree around.items.now) around.directory.before.now c.args.class b around.counted before.3.0 before.1))
