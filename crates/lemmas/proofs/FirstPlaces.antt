-- Positions of keys in a list that grows.
use Rattle.std.proofs.Common.{◌≡◌, ℕ, zero, suc, ◌+◌, ◌<◌, ◌≤◌, List, [], ◌∷◌, ◌++◌, length, get_or, Option, Some, None, Bool, true, false, not, cond, ltb, eqb, sym, refl, ap, ◌∙◌, arith, ⊎_elim}
use Rattle.std.specs.Prelude.{is_some, position, Contains}
use Rattle.std.specs.List.{position_or_len}
use Rattle.std.specs.Option.{unwrap_or}
use Rattle.std.specs.Ordering.{is_eq, nat_cmp}
use Rattle.std.specs.Cmp.{IsEquivalence, unsigned_tied}
use Rattle.std.proofs.Math.ListN.{length-append}
use Rattle.std.proofs.lemmas.Bool.{cases_eq, cases_Bool, cond-true, cond-false, lt-ltb, le-ltb, eq-eqb, ne_eqb, eqb-true}
use Rattle.std.proofs.lemmas.List.Folds.{position_or_len_push}
use Rattle.std.proofs.lemmas.List.Quantifiers.{position-Some}
use Rattle.lemmas.specs.Places.{first_position}
use Rattle.lemmas.proofs.Options.{none_is}
use Rattle.std.proofs.lemmas.List.Sums.{prefix_len-le-length}

abbrev pub found : ℕ → ℕ → Option ℕ
found i n = cond (ltb i n) (Some i) None

pub found_lt : (i n : ℕ) → i < n → found i n ≡ Some i
found_lt i n lt = cond-true (ltb i n) (Some i) None (lt-ltb i n lt)

found_le : (i n : ℕ) → n ≤ i → found i n ≡ None
found_le i n le = cond-false (ltb i n) (Some i) None (le-ltb i n le)

pub position_push : {X : Type 0} (p : X → Bool) (xs : List X) (y : X) → position p (xs ++ y ∷ []) ≡ cond (is_some (position p xs)) (position p xs) (cond (p y) (Some (length xs)) None)
position_push {X} p xs y =
    let last : Option ℕ = cond (p y) (Some (length xs)) None in
    let rest : Option ℕ → Option ℕ = λ o. cond (is_some o) o last in
    let first = position_or_len_push p xs y in
    let size : length (xs ++ y ∷ []) ≡ length xs + 1 = length-append xs (y ∷ []) in
    let both : position p (xs ++ y ∷ []) ≡ found (position_or_len p (xs ++ y ∷ [])) (length xs + 1) = ap (found (position_or_len p (xs ++ y ∷ []))) size in
    ⊎_elim
    (λ at. let here : position_or_len p (xs ++ y ∷ []) ≡ length xs + cond (p y) 0 1 = first ∙ cond-true (eqb (position_or_len p xs) (length xs)) (length xs + cond (p y) 0 1) (position_or_len p xs) (eq-eqb (position_or_len p xs) (length xs) at) in
    let none : position p xs ≡ None = found_le (position_or_len p xs) (length xs) (omega (arith, at)) in
    both ∙ ap (λ i. found i (length xs + 1)) here ∙ end ∙ sym (ap rest none))
    (λ before. let here : position_or_len p (xs ++ y ∷ []) ≡ position_or_len p xs = first ∙ cond-false (eqb (position_or_len p xs) (length xs)) (length xs + cond (p y) 0 1) (position_or_len p xs) (ne_eqb (position_or_len p xs) (length xs) before) in
    let less : position_or_len p xs < length xs = let le = prefix_len-le-length (λ x. not (p x)) xs in grind (arith, le, before) in
    both ∙ ap (λ i. found i (length xs + 1)) here ∙ found_lt (position_or_len p xs) (length xs + 1) (omega (arith, less)) ∙ sym (ap rest (found_lt (position_or_len p xs) (length xs) less)))
    (cases_eq (position_or_len p xs) (length xs))
  where
    end : found (length xs + cond (p y) 0 1) (length xs + 1) ≡ cond (p y) (Some (length xs)) None
    end = ⊎_elim
        (λ yes. let z : length xs + cond (p y) 0 1 ≡ length xs = let e = cond-true {A = ℕ} (p y) 0 1 yes in omega (arith, e) in
        ap (λ i. found i (length xs + 1)) z ∙ found_lt (length xs) (length xs + 1) (omega arith) ∙ sym (cond-true (p y) (Some (length xs)) None yes))
        (λ no'. let z : length xs + cond (p y) 0 1 ≡ length xs + 1 = let e = cond-false {A = ℕ} (p y) 0 1 no' in omega (arith, e) in
        ap (λ i. found i (length xs + 1)) z ∙ found_le (length xs + 1) (length xs + 1) (omega arith) ∙ sym (cond-false (p y) (Some (length xs)) None no'))
        (cases_Bool (p y))

same_first : {X : Type 0} (p q : X → Bool) → ((x : X) → p x ≡ q x) → (xs : List X) → position_or_len p xs ≡ position_or_len q xs
same_first p q same [] = refl
same_first p q same (x ∷ xs) = ap (λ b. cond (not b) (1 + position_or_len p xs) 0) (same x) ∙ ap (λ n. cond (not (q x)) (1 + n) 0) (same_first p q same xs)

-- tests that agree find the same position
pub same_position : {X : Type 0} (p q : X → Bool) → ((x : X) → p x ≡ q x) → (xs : List X) → position p xs ≡ position q xs
same_position p q same xs = ap (λ i. found i (length xs)) (same_first p q same xs)

-- a key that is already in the list changes no position
pub position_kept : {K : Type 0} (e : K → K → Bool) → IsEquivalence e → (xs : List K) (y q : K) → is_some (position (e y) xs) ≡ true → position (e q) (xs ++ y ∷ []) ≡ position (e q) xs
position_kept {K} e laws xs y q there =
    ⊎_elim
    (λ some. position_push (e q) xs y ∙ cond-true (is_some (position (e q) xs)) (position (e q) xs) (cond (e q y) (Some (length xs)) None) some)
    (λ none. position_push (e q) xs y ∙ cond-false (is_some (position (e q) xs)) (position (e q) xs) (cond (e q y) (Some (length xs)) None) none
    ∙ cond-false (e q y) (Some (length xs)) None (other none) ∙ sym (none_is (position (e q) xs) none))
    (cases_Bool (is_some (position (e q) xs)))
  where
    other : is_some (position (e q) xs) ≡ false → e q y ≡ false
    other none = ⊎_elim
        (λ yes. let same = same_position (e q) (e y) (λ x. laws.congr q y x yes) xs in let clash : true ≡ false = sym there ∙ sym (ap is_some same) ∙ none in cc)
        (λ no'. no')
        (cases_Bool (e q y))

-- a new key has the last position, and the others keep theirs
pub position_added : {K : Type 0} (e : K → K → Bool) → IsEquivalence e → (xs : List K) (y q : K) → is_some (position (e y) xs) ≡ false → position (e q) (xs ++ y ∷ []) ≡ cond (e y q) (Some (length xs)) (position (e q) xs)
position_added {K} e laws xs y q none =
    ⊎_elim
    (λ yes. let same = same_position (e q) (e y) (λ x. laws.congr q y x yes) xs in
    position_push (e q) xs y ∙ cond-false (is_some (position (e q) xs)) (position (e q) xs) (cond (e q y) (Some (length xs)) None) (ap is_some same ∙ none)
    ∙ cond-true (e q y) (Some (length xs)) None yes ∙ sym (cond-true (e y q) (Some (length xs)) (position (e q) xs) (laws.symm y q ∙ yes)))
    (λ no'. position_push (e q) xs y ∙ last no' ∙ sym (cond-false (e y q) (Some (length xs)) (position (e q) xs) (laws.symm y q ∙ no')))
    (cases_Bool (e q y))
  where
    last : e q y ≡ false → cond (is_some (position (e q) xs)) (position (e q) xs) (cond (e q y) (Some (length xs)) None) ≡ position (e q) xs
    last isn't = ⊎_elim
        (λ some. cond-true (is_some (position (e q) xs)) (position (e q) xs) (cond (e q y) (Some (length xs)) None) some)
        (λ empty. cond-false (is_some (position (e q) xs)) (position (e q) xs) (cond (e q y) (Some (length xs)) None) empty ∙ cond-false (e q y) (Some (length xs)) None isn't ∙ sym (none_is (position (e q) xs) empty))
        (cases_Bool (is_some (position (e q) xs)))

-- an element that passes is not before the first one that does
pub first_by : {X : Type 0} (p : X → Bool) (xs : List X) (k : ℕ) (x : X) → k < length xs → get_or xs k x ≡ x → p x ≡ true → position_or_len p xs ≤ k
first_by p [] k x lt at passes = absurd (omega (arith, lt))
first_by p (y ∷ ys) zero x lt at passes =
    let e = cond-false {A = ℕ} (not (p y)) (1 + position_or_len p ys) 0 (ap not (ap p at ∙ passes)) in omega (arith, e)
first_by p (y ∷ ys) (suc k) x lt at passes =
    let rest = first_by p ys k x (omega (arith, lt)) at passes in
    ⊎_elim
    (λ more. let e = cond-true {A = ℕ} (not (p y)) (1 + position_or_len p ys) 0 more in omega (arith, e, rest))
    (λ stop. let e = cond-false {A = ℕ} (not (p y)) (1 + position_or_len p ys) 0 stop in omega (arith, e))
    (cases_Bool (not (p y)))

-- the position of the first element that passes
pub record Stands {X : Type 0} (p : X → Bool) (xs : List X) (d : X) : Type 0 where
  pub at : ℕ
  pub is : position p xs ≡ Some at
  pub within : at < length xs
  pub passes : p (get_or xs at d) ≡ true

pub position_there : {X : Type 0} (p : X → Bool) (xs : List X) (x : X) → Contains xs x → p x ≡ true → Stands p xs x
position_there p xs x c passes =
    let most = first_by p xs c.0 x c.1 c.2 passes in
    let below = c.1 in
    let is = found_lt (position_or_len p xs) (length xs) (omega (arith, most, below)) in
    let rest = position-Some p xs (position_or_len p xs) x is in
    record { at = position_or_len p xs; is = is; within = rest.0; passes = rest.1 }

-- numbers that compare as equal are equal
pub equal_is : (x y : ℕ) → is_eq (nat_cmp x y) ≡ true → x ≡ y
equal_is x y e = eqb-true x y (sym (unsigned_tied x y) ∙ e)

pub is_equal : (x : ℕ) → is_eq (nat_cmp x x) ≡ true
is_equal x = unsigned_tied x x ∙ eq-eqb x x refl

-- a number in the list has a position, and the list has it there
pub number_there : (ids : List ℕ) (x : ℕ) → Contains ids x → (i : ℕ) × (first_position nat_cmp ids x ≡ Some i) × (i < length ids) × (get_or ids i x ≡ x)
number_there ids x c =
    let s = position_there (λ y. is_eq (nat_cmp x y)) ids x c (is_equal x) in
    (s.at, s.is, s.within, sym (equal_is x (get_or ids s.at x) s.passes))

-- A new key is entered with the length of the list, and a known key keeps its position:
-- the positions are those of the list with the key appended.
pub position_entered : {K : Type 0} (e : K → K → Bool) → IsEquivalence e → (xs : List K) (y q : K) (w : ℕ)
    → w ≡ unwrap_or (position (e y) xs) (length xs) → cond (e y q) (Some w) (position (e q) xs) ≡ position (e q) (xs ++ y ∷ [])
position_entered {K} e laws xs y q w is = by (position (e y) xs) refl
  where
    by : (o : Option ℕ) → position (e y) xs ≡ o → cond (e y q) (Some w) (position (e q) xs) ≡ position (e q) (xs ++ y ∷ [])
    by None at = ap (λ n. cond (e y q) (Some n) (position (e q) xs)) (is ∙ ap (λ o. unwrap_or o (length xs)) at)
        ∙ sym (position_added e laws xs y q (ap is_some at))
    by (Some j) at = ⊎_elim
        (λ yes. cond-true (e y q) (Some w) (position (e q) xs) yes ∙ ap Some (is ∙ ap (λ o. unwrap_or o (length xs)) at) ∙ sym at
        ∙ same_position (e y) (e q) (λ x. laws.congr y q x yes) xs ∙ kept)
        (λ other. cond-false (e y q) (Some w) (position (e q) xs) other ∙ kept)
        (cases_Bool (e y q))
      where
        kept : position (e q) xs ≡ position (e q) (xs ++ y ∷ [])
        kept = sym (position_kept e laws xs y q (ap is_some at))
