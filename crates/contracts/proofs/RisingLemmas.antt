-- Lists that rise, and the last of a list.
use Rattle.std.proofs.Common.{◌≡◌, ℕ, zero, suc, ◌+◌, ◌-◌, ◌<◌, ◌≤◌, List, [], ◌∷◌, ◌++◌, length, map, take, get_or, None, Some, sym, refl, ap, ◌∙◌, subst, arith, ⊎_elim}
use Rattle.std.specs.Prelude.{Contains, slice_get}
use Rattle.std.proofs.lemmas.List.{get_or_append_left, get_or-append_right, get_or_default, get_or_push, length-append, length_push, map-append, take_all, take_at, take_more}
use Rattle.std.proofs.lemmas.Option.{get_or_from_slice_get, slice_get-get_or, slice_get_within}
use Rattle.std.proofs.lemmas.Bool.{cases_lt}
use Rattle.contracts.specs.declared.arcs.Arc.{Arc}
use Rattle.contracts.specs.Searches.{AreRising}
use Rattle.contracts.proofs.PartLemmas.{contains_map}

-- two rising lists in a row rise, if no number of the second is below one of the first
pub rising_append : (xs ys : List ℕ) → AreRising xs → AreRising ys → ((j k : ℕ) → j < length xs → k < length ys → get_or xs j 0 ≤ get_or ys k 0) → AreRising (xs ++ ys)
rising_append xs ys first second between j k le lt =
    let size = length-append xs ys in
    ⊎_elim
    (λ in_k. let a = get_or_append_left xs ys 0 k in_k in
    let b = get_or_append_left xs ys 0 j (omega (arith, le, in_k)) in
    let c = first j k le in_k in
    omega (arith, a, b, c))
    (λ past_k. let a = get_or-append_right xs ys (length xs) k 0 refl past_k in
    ⊎_elim
    (λ in_j. let b = get_or_append_left xs ys 0 j in_j in
    let c = between j (k - length xs) in_j (omega (arith, lt, size, past_k)) in
    omega (arith, a, b, c))
    (λ past_j. let b = get_or-append_right xs ys (length xs) j 0 refl past_j in
    let c = second (j - length xs) (k - length xs) (omega (arith, le)) (omega (arith, lt, size, past_k)) in
    omega (arith, a, b, c))
    (cases_lt j (length xs)))
    (cases_lt k (length xs))

pub rising_prefix : (xs ys : List ℕ) → AreRising (xs ++ ys) → AreRising xs
rising_prefix xs ys rise j k le lt =
    let size = length-append xs ys in
    let a = get_or_append_left xs ys 0 k lt in
    let b = get_or_append_left xs ys 0 j (omega (arith, le, lt)) in
    let c = rise j k le (omega (arith, size, lt)) in
    omega (arith, a, b, c)

-- the last number of a rising list is the greatest
pub rising_last : (rest : List ℕ) (last x : ℕ) → AreRising (rest ++ last ∷ []) → Contains (rest ++ last ∷ []) x → x ≤ last
rising_last rest last x rise (k, lt, e) =
    let size = length_push rest last in
    let a = rise k (length rest) (omega (arith, lt, size)) (omega (arith, size)) in
    let b = get_or_push rest last 0 (length rest) refl in
    let c = get_or_default (rest ++ last ∷ []) k 0 x lt in
    omega (arith, a, b, c, e)

pub ends_in : {A : Type 0} (xs : List A) (x : A) → slice_get xs (length xs - 1) ≡ Some x → (rest : List A) × (xs ≡ rest ++ x ∷ [])
ends_in xs x is =
    let n : ℕ = length xs - 1 in
    let lt = slice_get_within xs n x is in
    (take n xs, sym (take_all (n + 1) xs (omega (arith, lt))) ∙ take_more xs n x lt ∙ ap (λ y. take n xs ++ y ∷ []) (get_or_from_slice_get xs n x x is))

pub none_in_end : (xs : List ℕ) → slice_get xs (length xs - 1) ≡ None → xs ≡ []
none_in_end [] none = refl
none_in_end (x ∷ xs) none = let there = slice_get-get_or (x ∷ xs) (length (x ∷ xs) - 1) 0 (omega arith) in absurd (cc)

-- a list without its last element
pub but_last : {A : Type 0} (xs rest new : List A) (x : A) → xs ≡ rest ++ x ∷ [] → new ≡ take (length xs - 1) xs → new ≡ rest
but_last xs rest new x is taken =
    let size = length_push rest x in
    let long = ap length is in
    taken ∙ ap (take (length xs - 1)) is ∙ take_at rest (x ∷ []) (length xs - 1) (omega (arith, size, long))

pub push_back : {A : Type 0} (xs rest new : List A) (x : A) → xs ≡ rest ++ x ∷ [] → new ≡ take (length xs - 1) xs → xs ≡ new ++ x ∷ []
push_back xs rest new x is taken = is ∙ ap (λ l. l ++ x ∷ []) (sym (but_last xs rest new x is taken))

-- if the last arc begins before an index, all arcs do
pub all_before : (arcs rest : List Arc) (last : Arc) (index : ℕ) → arcs ≡ rest ++ last ∷ [] → AreRising (map (λ (a : Arc). a.from) arcs) → last.from < index → (a : Arc) → Contains arcs a → a.from < index
all_before arcs rest last index is rise lt a c =
    let from : Arc → ℕ = λ x. x.from in
    let same : map from arcs ≡ map from rest ++ last.from ∷ [] = ap (map from) is ∙ map-append from rest (last ∷ []) in
    let le = rising_last (map from rest) last.from a.from (subst AreRising same rise) (subst (λ l. Contains l a.from) same (contains_map from arcs a c)) in
    omega (arith, le, lt)

pub only : (x k : ℕ) → k < length (x ∷ []) → get_or (x ∷ []) k 0 ≡ x
only x zero lt = refl
only x (suc k) lt = absurd (omega (arith, lt))

pub one_rises : (x : ℕ) → AreRising (x ∷ [])
one_rises x j k le lt = let a = only x k lt in let b = only x j (omega (arith, le, lt)) in omega (arith, a, b)
