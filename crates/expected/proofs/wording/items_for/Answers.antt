use Rattle.std.proofs.Common.{◌≡◌, ◌++◌, ◌+◌, ℕ, List, [], ◌∷◌, drop, map, get_or, sym, ap, ◌∙◌, arith, Bor}
use Rattle.std.proofs.lemmas.List.{map-append}
use Rattle.std.proofs.Math.ListN.{drop_of_length-le}
use Rattle.expected.specs.declared.groups.Group.TheVariants.{Statement}
use Rattle.expected.specs.declared.groups.TheConstants.{GROUPS}
use Rattle.expected.specs.Grouping.{has_all, items_of, without, word_of_group}
use Rattle.expected.specs.KindWords.{word_of}
use Rattle.expected.proofs.ItemLemmas.{items_single, items_taken, items_passed}
use Rattle.expected.proofs.wording.items_for.Goals as goal
use Rattle.expected.proofs.wording.items_for.Goals.{then-has_all+in_ok-push+in_ok-left-2, else-has_all}

abbrev word_now : Bor (List ℕ) → List ℕ
word_now word = word.now

pub loop-group-init : goal.loop-group-init
loop-group-init c =
    ap (λ words. map word_now words ++ items_of GROUPS c.extend_from_slice.new.self.items) c.new-words.ensures.items
    ∙ ap (items_of GROUPS) (c.in_ok-extend_from_slice.ensures.items ∙ ap (λ ks. ks ++ c.args.kinds.now) c.in_ok-left.ensures.items)

pub loop-group-preserved : goal.loop-group-preserved
loop-group-preserved c =
    let i = c.loop-group.group-index in
    let g = get_or GROUPS i Statement in
    let left = c.loop-group.left.items in
    let old = c.loop-group.words.items in
    let tested : c.has_all.result ≡ has_all left g = c.has_all.ensures ∙ ap (λ ks. has_all ks g) c.deref.ensures.value in
    elim c.if-has_all.branch [
      | then-has_all+in_ok-push+in_ok-left-2 w ↦
          let mapped : map word_now c.if-has_all.words.items ≡ map word_now old ++ word_of_group g ∷ [] =
          ap (λ v. map word_now v.items) w.words-is ∙ ap (map word_now) w.in_ok-push.ensures.items
          ∙ map-append word_now old (w.word_of_group.result ∷ []) ∙ ap (λ t. map word_now old ++ t ∷ []) w.word_of_group.ensures in
          let kept : c.if-has_all.left.items ≡ without g left =
          ap (λ v. v.items) w.left-is ∙ w.in_ok-left-2.ensures ∙ ap (without g) w.deref-then-has_all.ensures.value in
          ap (λ words. words ++ items_of (drop (i + 1) GROUPS) c.if-has_all.left.items) mapped
          ∙ ap (λ ks. (map word_now old ++ word_of_group g ∷ []) ++ items_of (drop (i + 1) GROUPS) ks) kept
          ∙ items_taken GROUPS i Statement left (map word_now old) c.loop-group-test.true (sym tested ∙ w.if-has_all.true) ∙ c.loop-group.invariant
      | else-has_all w ↦
          ap (λ v. map word_now v.items ++ items_of (drop (i + 1) GROUPS) c.if-has_all.left.items) w.words-is
          ∙ ap (λ v. map word_now old ++ items_of (drop (i + 1) GROUPS) v.items) w.left-is
          ∙ items_passed GROUPS i Statement left (map word_now old) c.loop-group-test.true (sym tested ∙ w.if-has_all.false) ∙ c.loop-group.invariant
    ]

pub returns : goal.returns
returns c =
    let old = map word_now c.loop-group.words.items in
    let left = c.loop-group.left.items in
    let ended : drop c.loop-group.group-index GROUPS ≡ [] = drop_of_length-le GROUPS (omega arith) in
    c.in_ok-add_words.ensures ∙ ap (λ ks. old ++ map word_of ks) c.deref-2.ensures.value ∙ ap (λ ws. old ++ ws) (sym (items_single left))
    ∙ ap (λ gs. old ++ items_of gs left) (sym ended) ∙ c.loop-group.invariant
