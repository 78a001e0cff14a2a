-- Positions of the heads of a switch, and the heads before an index.
use Rattle.std.proofs.Common.{◌≡◌, ℕ, zero, suc, ◌+◌, List, [], ◌∷◌, length, take, Some, None, Bool, true, false, not, cond, ltb, sym, refl, ap, ◌∙◌, ⊎_elim, arith}
use Rattle.std.specs.Prelude.{is_some, position, ◌&&◌, ◌||◌}
use Rattle.std.specs.List.{list_any, position_or_len}
use Rattle.std.proofs.lemmas.Bool.{le-ltb, lt-ltb, ltb-true, ltb-false, cases_Bool}
use Rattle.names.specs.Heads.{is_before}

before_where : (n i : ℕ) (b : Bool) → is_before n (cond b (Some i) None) ≡ (b && ltb i n)
before_where n i true = refl
before_where n i false = refl

none_before : (a : Bool) (i : ℕ) → (a && ltb i 0) ≡ false
none_before true i = le-ltb i 0 (omega arith)
none_before false i = refl

abbrev at_or : Bool → ℕ → ℕ
at_or passes rest = cond (not passes) (1 + rest) 0

next_is : (rest : ℕ) → 1 + rest ≡ suc rest
next_is rest = omega arith

less_next : (a b : ℕ) → ltb (suc a) (suc b) ≡ ltb a b
less_next a b = ⊎_elim
    (λ yes. let lt = ltb-true a b yes in lt-ltb (suc a) (suc b) (omega (arith, lt)) ∙ sym yes)
    (λ no'. let le = ltb-false a b no' in le-ltb (suc a) (suc b) (omega (arith, le)) ∙ sym no')
    (cases_Bool (ltb a b))

one_more : (passes : Bool) (rest l n : ℕ) (some : Bool) → (ltb rest l && ltb rest n) ≡ some → (ltb (at_or passes rest) (suc l) && ltb (at_or passes rest) (suc n)) ≡ (passes || some)
one_more true rest l n some e = ap (λ b. b && ltb 0 (suc n)) (lt-ltb 0 (suc l) (omega arith)) ∙ lt-ltb 0 (suc n) (omega arith)
one_more false rest l n some e = ap (λ k. ltb k (suc l) && ltb k (suc n)) (next_is rest) ∙ ap (λ b. b && ltb (suc rest) (suc n)) (less_next rest l) ∙ ap (λ b. ltb rest l && b) (less_next rest n) ∙ e

within : {X : Type 0} (p : X → Bool) (xs : List X) (n : ℕ) → (ltb (position_or_len p xs) (length xs) && ltb (position_or_len p xs) n) ≡ list_any p (take n xs)
within p [] zero = refl
within p [] (suc n) = refl
within p (x ∷ xs) zero = none_before (ltb (position_or_len p (x ∷ xs)) (length (x ∷ xs))) (position_or_len p (x ∷ xs))
within p (x ∷ xs) (suc n) = one_more (p x) (position_or_len p xs) (length xs) n (list_any p (take n xs)) (within p xs n)

-- the first element that passes is before index n exactly if one of the first n passes
pub first_before : {X : Type 0} (p : X → Bool) (xs : List X) (n : ℕ) → is_before n (position p xs) ≡ list_any p (take n xs)
first_before p xs n = before_where n (position_or_len p xs) (ltb (position_or_len p xs) (length xs)) ∙ within p xs n

some_where : (i : ℕ) (b : Bool) → is_some (cond b (Some i) None) ≡ b
some_where i true = refl
some_where i false = refl

stands : {X : Type 0} (p : X → Bool) (xs : List X) → ltb (position_or_len p xs) (length xs) ≡ list_any p xs
stands p [] = refl
stands p (x ∷ xs) = stands_more (p x) (position_or_len p xs) (length xs) (list_any p xs) (stands p xs)
  where
    stands_more : (passes : Bool) (rest l : ℕ) (some : Bool) → ltb rest l ≡ some → ltb (at_or passes rest) (suc l) ≡ (passes || some)
    stands_more true rest l some e = lt-ltb 0 (suc l) (omega arith)
    stands_more false rest l some e = ap (λ k. ltb k (suc l)) (next_is rest) ∙ less_next rest l ∙ e

-- there is a first element that passes exactly if any passes
pub first_of_some : {X : Type 0} (p : X → Bool) (xs : List X) → is_some (position p xs) ≡ list_any p xs
first_of_some p xs = some_where (position_or_len p xs) (ltb (position_or_len p xs) (length xs)) ∙ stands p xs
