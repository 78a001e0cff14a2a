use Rattle.std.proofs.Common.{◌≡◌, ◌≢◌, ◌+◌, ◌<◌, ◌≤◌, ℕ, Bool, true, false, ◌&&◌, List, [], ◌∷◌, length, drop, get_or, nat_eq, sym, ap, ◌∙◌, refl, arith}
use Rattle.std.proofs.lemmas.Bool.{eq-eqb, ne_eqb}
use Rattle.std.proofs.lemmas.List.{at_drop_more, at_drop_all}
use Rattle.std.specs.Cmp.Lexicographic.{pointwise, unequal}
use Rattle.source.proofs.words.is_written.Goals.{then-bytes-test+then-at-word+else-text-at, then-bytes-test+else-at-word, else-bytes-test}
use Rattle.source.proofs.words.is_written.Goals as goal

-- the rests of two lists, by their first items and the rests after those
split : (a b : List ℕ) (k : ℕ) → k < length a → k < length b
    → pointwise nat_eq (drop k a) (drop k b) ≡ (nat_eq (get_or a k 0) (get_or b k 0) && pointwise nat_eq (drop (k + 1) a) (drop (k + 1) b))
split a b k in_a in_b =
    at_drop_more (λ l. pointwise nat_eq l (drop k b)) a k 0 in_a ∙ at_drop_more (λ l. pointwise nat_eq (get_or a k 0 ∷ drop (k + 1) a) l) b k 0 in_b

split_same : (a b : List ℕ) (k : ℕ) → k < length a → k < length b → get_or a k 0 ≡ get_or b k 0
    → pointwise nat_eq (drop k a) (drop k b) ≡ pointwise nat_eq (drop (k + 1) a) (drop (k + 1) b)
split_same a b k in_a in_b same =
    split a b k in_a in_b ∙ ap (λ e. e && pointwise nat_eq (drop (k + 1) a) (drop (k + 1) b)) (eq-eqb _ _ same)

split_apart : (a b : List ℕ) (k : ℕ) → k < length a → k < length b → nat_eq (get_or a k 0) (get_or b k 0) ≡ false
    → pointwise nat_eq (drop k a) (drop k b) ≡ false
split_apart a b k in_a in_b apart =
    split a b k in_a in_b ∙ ap (λ e. e && pointwise nat_eq (drop (k + 1) a) (drop (k + 1) b)) apart

split_end : (a b : List ℕ) (k : ℕ) → length a ≤ k → length b ≤ k → pointwise nat_eq (drop k a) (drop k b) ≡ true
split_end a b k past_a past_b =
    at_drop_all (λ l. pointwise nat_eq l (drop k b)) a k past_a ∙ at_drop_all (λ l. pointwise nat_eq [] l) b k past_b

pub returns-then-text-word : goal.returns-then-text-word
returns-then-text-word c =
    sym (ap (λ t. pointwise nat_eq t c.args.word.now) (sym (c.as_bytes-text.ensures.value ∙ c.reserved_word.ensures)) ∙ unequal nat_eq c.as_bytes-text.result.now c.args.word.now c.if-text-word.true)

pub bytes-init : goal.bytes-init
bytes-init c = record { within = omega arith; same = refl }

pub bytes-preserved : goal.bytes-preserved
bytes-preserved c =
    record { within = omega arith; same = sym (split_same c.as_bytes-text.result.now c.args.word.now c.bytes.at c.bytes-test.true c.if-at-word.true c.if-text-at.true) ∙ c.bytes.invariant.same }

-- if the bytes at one index differ, and if none are left

ends_apart : (a b : List ℕ) (k : ℕ) (whole : Bool) → k < length a → k < length b → get_or a k 0 ≢ get_or b k 0
    → pointwise nat_eq (drop k a) (drop k b) ≡ whole → nat_eq k (length a) ≡ whole
ends_apart a b k whole in_a in_b apart is =
    ne_eqb k (length a) (λ e. omega arith) ∙ sym (split_apart a b k in_a in_b (ne_eqb _ _ apart)) ∙ is

ends_whole : (a b : List ℕ) (k : ℕ) (whole : Bool) → length a ≡ length b → k ≤ length a → length a ≤ k
    → pointwise nat_eq (drop k a) (drop k b) ≡ whole → nat_eq k (length a) ≡ whole
ends_whole a b k whole long within past is =
    eq-eqb k (length a) (omega arith) ∙ sym (split_end a b k past (omega arith)) ∙ is

pub returns : goal.returns
returns c =
    let text = c.as_bytes-text.result.now in
    let is = c.bytes.invariant.same ∙ ap (λ t. pointwise nat_eq t c.args.word.now) (c.as_bytes-text.ensures.value ∙ c.reserved_word.ensures) in
    elim c.bytes-test.branch [
      | then-bytes-test+then-at-word+else-text-at w ↦ ends_apart text c.args.word.now c.bytes.at _ w.bytes-test.true w.if-at-word.true w.if-text-at.false is
      | then-bytes-test+else-at-word w ↦ absurd (omega arith)
      | else-bytes-test w ↦ ends_whole text c.args.word.now c.bytes.at _ c.if-text-word.false c.bytes.invariant.within (omega arith) is
    ]
