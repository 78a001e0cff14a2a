-- From the numbers of a contract's states and messages to their lists.
use Rattle.std.proofs.Common.{◌≡◌, ◌≢◌, ℕ, ◌<◌, List, length, map, sym, ap, ◌∙◌, subst, arith}
use Rattle.std.specs.Prelude.{Contains, All, AllPairs}
use Rattle.std.proofs.lemmas.List.{length-map, get_or-map}
use Rattle.contracts.specs.Parts.{AreConsecutive}
use Rattle.contracts.proofs.PartLemmas.{get_again, contains_map}
use Rattle.contracts.proofs.ListLemmas.{made_from}

-- consecutive numbers differ
pub row_once : (first : ℕ) (numbers : List ℕ) → AreConsecutive first numbers → AllPairs (λ x y. x ≢ y) numbers
row_once first numbers group = λ i j d less lt same.
    let before : i < length numbers = omega (arith, less, lt) in
    let at_i = get_again numbers i 0 d before in
    let at_j = get_again numbers j 0 d lt in
    let a = group i before in
    let b = group j lt in
    absurd (omega (arith, less, same, at_i, at_j, a, b))

-- elements with different numbers differ
pub ids_once : {A : Type 0} (number : A → ℕ) (ids : List A) → AllPairs (λ x y. x ≢ y) (map number ids) → AllPairs (λ x y. x ≢ y) ids
ids_once number ids apart = λ i j d less lt same.
    let size = length-map ids number in
    let below : i < length ids = omega (arith, less, lt) in
    apart i j (number d) less (omega (arith, lt, size)) (get_or-map number ids i d (number d) below ∙ ap number same ∙ sym (get_or-map number ids j d (number d) lt))

pub id_in : {A : Type 0} (number : A → ℕ) (ids : List A) (x : A) → ((a b : A) → number a ≡ number b → a ≡ b) → Contains (map number ids) (number x) → Contains ids x
id_in number ids x one c = let m = made_from number ids (number x) c in subst (Contains ids) (one m.0 x m.2) m.1

pub in_numbers : {A : Type 0} (number : A → ℕ) (ids : List A) (x : A) → Contains ids x → Contains (map number ids) (number x)
in_numbers number ids x c = contains_map number ids x c

-- what holds of all numbers holds of the elements that have them
pub unmapped : {A : Type 0} (P : ℕ → Type 0) (number : A → ℕ) (ids : List A) → All P (map number ids) → All (λ x. P (number x)) ids
unmapped P number ids all = λ k d lt. subst P (get_or-map number ids k d (number d) lt) (all k (number d) (let size = length-map ids number in omega (arith, size, lt)))
