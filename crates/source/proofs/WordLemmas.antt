-- Reserved words by the byte that they begin with.
use Rattle.std.proofs.Common.{◌≡◌, ◌≢◌, ◌<◌, ℕ, Bool, true, false, cond, List, [], ◌∷◌, length, drop, get_or, ltb, map, None, Some, sym, refl, ◌∙◌, ap, arith, eqb-true, eq-eqb}
use Rattle.std.specs.Prelude.{◌==◌, ◌||◌, find, nat_eq, slice_index, unwrap_or, if◌then◌else◌}
use Rattle.std.specs.List.{list_all}
use Rattle.std.specs.Cmp.Lexicographic.{pointwise, unequal}
use Rattle.std.proofs.lemmas.Bool.{false≢true, and_parts, ltb-true}
use Rattle.std.proofs.lemmas.Bool.Decides.{nat_tests}
use Rattle.source.specs.declared.kind.Kind.{Kind}
use Rattle.source.specs.declared.kind.Kind.TheVariants.{Name}
use Rattle.source.specs.Words.{reserved_words, reserved_text, written_so, word_kind, kind_among}

-- the kinds of reserved words
abbrev pub reserved : List Kind
reserved = map (λ w. w.0) reserved_words

-- those of the words that begin with this byte
abbrev pub of_first : ℕ → List Kind → List Kind
of_first b [] = []
of_first b (k ∷ ks) = if slice_index (reserved_text k) 0 == b then k ∷ of_first b ks else of_first b ks

-- the same texts begin with the same byte
same_first : (xs ys : List ℕ) → pointwise nat_eq xs ys ≡ true → slice_index xs 0 ≡ slice_index ys 0
same_first [] [] h = refl
same_first [] (y ∷ ys) h = absurd (false≢true h)
same_first (x ∷ xs) [] h = absurd (false≢true h)
same_first (x ∷ xs) (y ∷ ys) h = eqb-true x y ((and_parts (nat_eq x y) (pointwise nat_eq xs ys) h).0)

abbrev is_written : List ℕ → Kind → Bool
is_written word k = pointwise nat_eq (reserved_text k) word

not_written : (word : List ℕ) (k : Kind) (t : Bool) → is_written word k ≡ t → (slice_index (reserved_text k) 0 == slice_index word 0) ≡ false → t ≡ false
not_written word k true is h = absurd (false≢true (sym h ∙ eq-eqb (slice_index (reserved_text k) 0) (slice_index word 0) (same_first (reserved_text k) word is)))
not_written word k false is h = refl

-- a word is searched for only among the words that begin with its first byte
of_first_find : (ks : List Kind) (word : List ℕ) → find (is_written word) (of_first (slice_index word 0) ks) ≡ find (is_written word) ks
of_first_find [] word = refl
of_first_find (k ∷ ks) word = by (of_first_find ks word) (slice_index (reserved_text k) 0 == slice_index word 0) refl
  where
    by : find (is_written word) (of_first (slice_index word 0) ks) ≡ find (is_written word) ks → (t : Bool) → (slice_index (reserved_text k) 0 == slice_index word 0) ≡ t → find (is_written word) (if t then k ∷ of_first (slice_index word 0) ks else of_first (slice_index word 0) ks) ≡ find (is_written word) (k ∷ ks)
    by same true h = ap (λ r. cond (is_written word k) (Some k) r) same
    by same false h = same ∙ ap (λ t. cond t (Some k) (find (is_written word) ks)) (sym (not_written word k (is_written word k) refl h))

-- a word is found by the texts of the kinds, if these are how the kinds are written
found_by_kind : (written : List (Kind × List ℕ)) (word : List ℕ) → map (λ w. reserved_text w.0) written ≡ map (λ w. w.1) written
    → find (is_written word) (map (λ w. w.0) written) ≡ written_so written word
found_by_kind [] word texts = refl
found_by_kind (w ∷ written) word texts = λ i.
    if pointwise nat_eq (get_or (texts i) 0 []) word then Some w.0 else found_by_kind written word (ap (drop 1) texts) i

-- the kind of a word that begins with this byte
pub kind_of_first : (word : List ℕ) (b : ℕ) → slice_index word 0 ≡ b → kind_among (of_first b reserved) word ≡ word_kind word
unfolding word_kind
kind_of_first word b e = ap (λ m. kind_among (of_first m reserved) word) (sym e) ∙ ap (λ r. unwrap_or r Name) (of_first_find reserved word ∙ found_by_kind reserved_words word refl)

-- the bytes that reserved words begin with
abbrev pub is_first : ℕ → Bool
is_first b = b == 98 || b == 99 || b == 67 || b == 100 || b == 101 || b == 69 || b == 102 || b == 105 || b == 73 || b == 109 || b == 110 || b == 78 || b == 111 || b == 112 || b == 114 || b == 115 || b == 116 || b == 118 || b == 119

of_no_first : (ks : List Kind) (b : ℕ) → list_all (λ k. is_first (slice_index (reserved_text k) 0)) ks ≡ true → is_first b ≡ false → of_first b ks ≡ []
of_no_first [] b all h = refl
of_no_first (k ∷ ks) b all h =
    by (of_no_first ks b ((and_parts (is_first (slice_index (reserved_text k) 0)) (list_all (λ k. is_first (slice_index (reserved_text k) 0)) ks) all).1) h) (slice_index (reserved_text k) 0 == b) refl
  where
    by : of_first b ks ≡ [] → (t : Bool) → (slice_index (reserved_text k) 0 == b) ≡ t → (if t then k ∷ of_first b ks else of_first b ks) ≡ []
    by none true is = absurd (false≢true (sym h ∙ ap is_first (sym (eqb-true (slice_index (reserved_text k) 0) b is)) ∙ (and_parts (is_first (slice_index (reserved_text k) 0)) (list_all (λ k. is_first (slice_index (reserved_text k) 0)) ks) all).0))
    by none false is = none

pub no_first : (b : ℕ) → b ≢ 98 → b ≢ 99 → b ≢ 67 → b ≢ 100 → b ≢ 101 → b ≢ 69 → b ≢ 102 → b ≢ 105 → b ≢ 73 → b ≢ 109 → b ≢ 110 → b ≢ 78 → b ≢ 111 → b ≢ 112 → b ≢ 114 → b ≢ 115 → b ≢ 116 → b ≢ 118 → b ≢ 119 → is_first b ≡ false
no_first b x0 x1 x2 x3 x4 x5 x6 x7 x8 x9 x10 x11 x12 x13 x14 x15 x16 x17 x18 = grind (arith, nat_tests)

-- a word that begins with no such byte is a name
pub name_of_first : (word : List ℕ) → is_first (slice_index word 0) ≡ false → Name ≡ word_kind word
name_of_first word none =
    ap (λ ks. kind_among ks word) (sym (of_no_first reserved (slice_index word 0) refl none))
    ∙ kind_of_first word (slice_index word 0) refl

-- a word that is shorter than each of these is none of them
none_shorter : (ks : List Kind) (word : List ℕ) → list_all (λ k. ltb 1 (length (reserved_text k))) ks ≡ true → length word < 2 → find (is_written word) ks ≡ None
none_shorter [] word all h = refl
none_shorter (k ∷ ks) word all h =
    let both = and_parts (ltb 1 (length (reserved_text k))) (list_all (λ k. ltb 1 (length (reserved_text k))) ks) all in
    let apart : length (reserved_text k) ≢ length word = λ e. omega (arith, e, h, ltb-true 1 (length (reserved_text k)) both.0) in
    ap (λ t. cond t (Some k) (find (is_written word) ks)) (unequal nat_eq (reserved_text k) word apart) ∙ none_shorter ks word both.1 h

-- a word of one letter is a name
pub letter_is_name : (word : List ℕ) → length word < 2 → Name ≡ word_kind word
unfolding word_kind
letter_is_name word h = ap (λ r. unwrap_or r Name) (sym (none_shorter reserved word refl h) ∙ found_by_kind reserved_words word refl)
