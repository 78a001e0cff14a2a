-- Names in scope, as the code has them and as they are declared.
use Rattle.std.proofs.Common.{◌≡◌, ℕ, suc, ◌+◌, ◌≤◌, List, [], ◌∷◌, length, map, Some, None, Bool, true, false, not, cond}
use Rattle.std.proofs.Common.{ltb, refl, sym, ap, ◌∙◌, arith, ⊎_elim}
use Rattle.std.specs.Prelude.{Option, option_and_then, option_map, position, slice_get}
use Rattle.std.specs.List.{position_or_len}
use Rattle.std.specs.Map.{lookup}
use Rattle.std.proofs.lemmas.Bool.{cases_Bool, cases_lt, cond-true, cond-false, le-ltb}
use Rattle.lemmas.proofs.FirstPlaces.{found, found_lt}
use Rattle.source.specs.declared.token.Span.{Span}
use Rattle.tables.specs.Firsts.{first_of}
use Rattle.tables.specs.Scoped.{meaning_of, declared_in}
use Rattle.tables.specs.Words.{same_word, word_at, words_at}
use Rattle.tables.specs.declared.word.Word.{Word}

abbrev pub written : {T : Type 0} → Word × T → List ℕ × T
written e = (e.0.bytes.now, e.1)

-- a name means what the map has for it
pub meaning_is : {T : Type 0} (entries : List (Word × T)) (q : List ℕ)
    → meaning_of (map written entries) q ≡ lookup (λ (k : Word). same_word q k.bytes.now) entries
meaning_is [] q = refl
meaning_is (e ∷ es) q = ap (λ o. cond (same_word q e.0.bytes.now) (Some e.1) o) (meaning_is es q)

first_here : {X : Type 0} (p : X → Bool) (x : X) (xs : List X) → p x ≡ true → position p (x ∷ xs) ≡ Some 0
first_here p x xs is = ap (λ b. found (cond (not b) (1 + position_or_len p xs) 0) (suc (length xs))) is
    ∙ found_lt 0 (suc (length xs)) (omega arith)

first_later : {X : Type 0} (p : X → Bool) (x : X) (xs : List X) → p x ≡ false → position p (x ∷ xs) ≡ option_map suc (position p xs)
first_later p x xs is = ap (λ b. found (cond (not b) (1 + position_or_len p xs) 0) (suc (length xs))) is
    ∙ shifted (position_or_len p xs) (length xs)
  where
    past_end : (i n : ℕ) → n ≤ i → found i n ≡ None
    past_end i n le = cond-false (ltb i n) (Some i) None (le-ltb i n le)

    shifted : (n len : ℕ) → found (1 + n) (suc len) ≡ option_map suc (found n len)
    shifted n len = ⊎_elim
        (λ lt. found_lt (1 + n) (suc len) (omega (arith, lt)) ∙ ap Some (let e : 1 + n ≡ suc n = omega arith in e)
        ∙ sym (ap (option_map suc) (found_lt n len lt)))
        (λ le. past_end (1 + n) (suc len) (omega (arith, le)) ∙ sym (ap (option_map suc) (past_end n len le)))
        (cases_lt n len)

-- among declarations, a name means the first of its name
module _ {X T : Type 0} (text : List ℕ) (name : X → Span) (meaning : X → T) where
  behind : (x : X) (xs : List X) (o : Option ℕ)
      → option_and_then (slice_get (x ∷ xs)) (option_map suc o) ≡ option_and_then (slice_get xs) o
  behind x xs None = refl
  behind x xs (Some k) = refl

  pub meaning_first : (xs : List X) (q : List ℕ) → meaning_of (declared_in text name meaning xs) q
      ≡ option_map meaning (option_and_then (slice_get xs) (first_of (words_at text (map name xs)) q))
  meaning_first [] q = refl
  meaning_first (x ∷ xs) q =
      let word = word_at text (name x) in
      let words = words_at text (map name xs) in
      let rest = meaning_of (declared_in text name meaning xs) q in
      let first : Option ℕ → Option T = λ o. option_map meaning (option_and_then (slice_get (x ∷ xs)) o) in ⊎_elim
      (λ same. cond-true (same_word q word) (Some (meaning x)) rest same ∙ sym (ap first (first_here (same_word q) word words same)))
      (λ other. cond-false (same_word q word) (Some (meaning x)) rest other ∙ meaning_first xs q
      ∙ sym (ap first (first_later (same_word q) word words other) ∙ ap (option_map meaning) (behind x xs (first_of words q))))
      (cases_Bool (same_word q word))
