use Rattle.std.proofs.Common.{◌≡◌, ◌++◌, ◌+◌, ◌<◌, ℕ, List, [], length, drop, map, get_or, sym, ap, ◌∙◌, append_assoc, arith, Bor}
use Rattle.std.specs.String.{string_bytes}
use Rattle.std.proofs.lemmas.List.{length-map, get_or-map}
use Rattle.expected.specs.Expectations.{rest_of_items}
use Rattle.expected.proofs.ItemLemmas.{following_next}
use Rattle.expected.proofs.wording.add_following.Goals as goal
use Rattle.expected.proofs.wording.add_following.Goals.{then-i-items, else-i-items}

abbrev word_now : Bor (List ℕ) → List ℕ
word_now word = word.now

pub loop-i-preserved : goal.loop-i-preserved
loop-i-preserved c =
    let i = c.loop-i.i in
    let words = c.args.items.now in
    let items = map word_now words in
    let last = c.args.last.now in
    let before = c.if-i-items.push_str.now in
    let item = word_now (get_or words i (record { ref_ptr = (0, 0); now = [] })) in
    let count : length items ≡ length words = length-map words word_now in
    let is : get_or items i item ≡ item = get_or-map word_now words i _ _ c.loop-i-test.true in
    let within : i < length items = omega arith in
    let next : rest_of_items last (drop i items) ≡ before ++ (item ++ rest_of_items last (drop (i + 1) items)) =
    elim c.if-i-items.branch [
      | then-i-items w ↦
          following_next last before item items i within is (λ _. ap word_now w.push_str-is) (λ other. absurd (other (w.if-i-items.true ∙ sym count)))
      | else-i-items w ↦
          following_next last before item items i within is (λ e. absurd (w.if-i-items.false (e ∙ count))) (λ _. ap word_now w.push_str-is)
    ] in
    ap (λ t. t ++ rest_of_items last (drop (i + 1) items)) (c.in_ok-push_str-2.ensures.bytes ∙ ap (λ t. t ++ item) c.in_ok-push_str.ensures.bytes)
    ∙ append_assoc (string_bytes c.loop-i.text ++ before) item (rest_of_items last (drop (i + 1) items))
    ∙ append_assoc (string_bytes c.loop-i.text) before (item ++ rest_of_items last (drop (i + 1) items))
    ∙ ap (λ t. string_bytes c.loop-i.text ++ t) (sym next) ∙ c.loop-i.invariant
