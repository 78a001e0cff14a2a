use Rattle.std.proofs.Common.{◌≡◌, ◌≢◌, ◌∙◌, ◌+◌, List, ℕ, ap, ap₂, arith, drop, length, length-append, subst, subst₂, suc, sym, take, take_all}
use Rattle.std.proofs.lemmas.List.Folds.{flat_map-map}
use Rattle.std.specs.List.{flat_map}
use Rattle.program.specs.Lists.{Each}
use Rattle.tree.specs.Trees.{ItemTree, definition_tree, item_tree, program_tree}
use Rattle.tree.specs.declared.item.Item.{Item}
use Rattle.singcheck.specs.Replays.{IsFirstAt, method_names, names_in}
use Rattle.singcheck.proofs.EntryLemmas.{first_in, fits_first, fits_row, rows_more, rows_round}
use Rattle.sound.proofs.Lists.{each_append}
use Rattle.singcheck.proofs.entries.entry_index.Goals as goal
use Rattle.singcheck.proofs.entries.entry_index.Goals.{After-deref-item-items}

names_of : List ℕ → Item → List (List ℕ)
names_of text i = names_in text (definition_tree i.definition)

-- the names of the methods, as the code concatenates them
whole_is : (c : After-deref-item-items) → method_names c.args.text.now (program_tree c.args.tree.now) ≡ flat_map (names_of c.args.text.now) c.deref-item-items.result.now
unfolding names_of
whole_is c =
    let text = c.args.text.now in
    flat_map-map (λ (i : ItemTree). names_in text i.definition) item_tree c.args.tree.now.items.items ∙ ap (flat_map (names_of text)) (sym c.deref-item-items.ensures.value)

pub overflow_add-result : goal.overflow_add-result
unfolding names_of
overflow_add-result c =
    let whole = ap (λ l. length l) (whole_is (goal.at.overflow_add-result c).After-deref-item-items) in
    omega (
      arith,
      c.requires.few,
      whole,
      fits_first (names_of c.args.text.now) c.deref-item-items.result.now c.loop-item.item-index c.item-item.result c.args.entry.now c.in-Some.index c.loop-item.before
          c.loop-item-test.true c.item-item.is c.loop-item.invariant.counted c.in-Some.ensures.some,
    )

pub returns-in-Some-clause-some : goal.returns-in-Some-clause-some
unfolding names_of
returns-in-Some-clause-some c =
    let row = names_of c.args.text.now in
    let xs = c.deref-item-items.result.now in
    let i = c.loop-item.item-index in
    let x = c.item-item.result in
    subst₂ (λ l k. IsFirstAt l c.args.entry.now k) (sym (whole_is (goal.at.returns-in-Some-clause-some c).After-deref-item-items)) (ap (λ b. b + c.in-Some.index) (sym c.loop-item.invariant.counted))
    (first_in (flat_map row xs) (flat_map row (take i xs)) (row x) (flat_map row (drop (suc i) xs)) c.args.entry.now c.in-Some.index (rows_round row xs i x c.loop-item-test.true c.item-item.is) c.loop-item.invariant.others c.in-Some.ensures.some)

pub overflow_add-before : goal.overflow_add-before
unfolding names_of
overflow_add-before c =
    let whole = ap (λ l. length l) (whole_is (goal.at.overflow_add-before c).After-deref-item-items) in
    omega (
      arith,
      c.requires.few,
      whole,
      c.methods_of-before.ensures c.args.text.now,
      fits_row (names_of c.args.text.now) c.deref-item-items.result.now c.loop-item.item-index c.item-item.result c.loop-item.before
          c.loop-item-test.true c.item-item.is c.loop-item.invariant.counted,
    )

pub loop-item-preserved : goal.loop-item-preserved
unfolding names_of
loop-item-preserved c =
    let row = names_of c.args.text.now in
    let xs = c.deref-item-items.result.now in
    let i = c.loop-item.item-index in
    let x = c.item-item.result in
    let more = rows_more row xs i x c.loop-item-test.true c.item-item.is in
    record {
      counted = ap₂ (λ a b. a + b) c.loop-item.invariant.counted (c.methods_of-before.ensures c.args.text.now) ∙ sym (ap (λ l. length l) more ∙ length-append (flat_map row (take i xs)) (row x));
      others = subst (Each (λ (n : List ℕ). n ≢ c.args.entry.now)) (sym more) (each_append (λ (n : List ℕ). n ≢ c.args.entry.now) (flat_map row (take i xs)) (row x) c.loop-item.invariant.others c.in_default.ensures.none);
    }

pub returns-clause-none : goal.returns-clause-none
unfolding names_of
returns-clause-none c =
    let row = names_of c.args.text.now in
    let xs = c.deref-item-items.result.now in
    subst (Each (λ (n : List ℕ). n ≢ c.args.entry.now)) (ap (flat_map row) (take_all c.loop-item.item-index xs c.loop-item-test.false) ∙ sym (whole_is (goal.at.returns-clause-none c).After-deref-item-items)) c.loop-item.invariant.others
