-- Positions of the numbers and the keys of a contract.
use Rattle.std.proofs.Common.{◌≡◌, ℕ, suc, ◌+◌, ◌-◌, ◌<◌, ◌≤◌, Bool, leb, List, [], ◌∷◌, length, get_or, Some, true, sym, refl, ap, ◌∙◌, arith, ⊎_elim}
use Rattle.std.specs.Prelude.{◌↔◌, position, Contains, IsTrue, nat_lt}
use Rattle.std.specs.List.{position_or_len, range_with_len}
use Rattle.std.proofs.lemmas.List.FromFn.{length-range_with_len, get_or-range_with_len}
use Rattle.std.specs.Ordering.{is_eq, nat_cmp, ordering_then}
use Rattle.std.specs.Cmp.{Equal-is}
use Rattle.std.proofs.lemmas.Bool.{cases_eq, leb-true, ltb-true, lt-ltb}
use Rattle.std.proofs.lemmas.List.Quantifiers.{position-Some}
use Rattle.std.proofs.lemmas.Map.Lookups.{exact_pairs, exact_unsigned}
use Rattle.lemmas.proofs.FirstPlaces.{found_lt, first_by, is_equal}
use Rattle.contracts.specs.Parts.{AreConsecutive}
use Rattle.contracts.specs.declared.positions.Listing.{Listing}
use Rattle.contracts.specs.Positions.{numbers_of, pair_cmp}
use Rattle.contracts.proofs.PartLemmas.{IsOnce, get_again}

-- consecutive numbers are known by the first and their count
pub row_is : (first : ℕ) (numbers : List ℕ) → AreConsecutive first numbers → range_with_len first (length numbers) ≡ numbers
row_is first [] group = refl
row_is first (n ∷ ns) group =
    let head : n ≡ first + 0 = group 0 (omega arith) in
    let rest = row_is (first + 1) ns (λ i lt. let e = group (suc i) (omega (arith, lt)) in omega (arith, e)) in
    ap (λ l. first ∷ l) rest ∙ ap (λ k. k ∷ ns) (omega (arith, head))

-- the numbers of a range
pub from_row : (first count n : ℕ) → Contains (range_with_len first count) n → (first ≤ n) × (n < first + count)
from_row first count n c =
    let size = length-range_with_len first count in
    let lt = c.1 in
    let at = get_or-range_with_len first count c.0 n (omega (arith, lt, size)) in
    let is = c.2 in
    (omega (arith, at, is), omega (arith, at, is, lt, size))

pub in_row : (first count n : ℕ) → first ≤ n → n < first + count → Contains (range_with_len first count) n
in_row first count n low high =
    let size = length-range_with_len first count in
    (n - first, omega (arith, low, high, size), get_or-range_with_len first count (n - first) n (omega (arith, low, high)) ∙ omega (arith, low))

-- each number of a listing occurs at one index
pub listed_once : (l : Listing) → IsOnce (numbers_of l)
listed_once l = record {
  same = λ v w lt_v lt_w same.
      let size = length-range_with_len l.first l.count in
      let a = get_or-range_with_len l.first l.count v 0 (omega (arith, lt_v, size)) in
      let b = get_or-range_with_len l.first l.count w 0 (omega (arith, lt_w, size)) in
      omega (arith, a, b, same);
}

-- whether a number is in a range, by its distance from the first
pub has_row : (first count n : ℕ) → first ≤ n → IsTrue (nat_lt (n - first) count) ↔ Contains (range_with_len first count) n
has_row first count n low = (
  λ yes. in_row first count n low (let lt = ltb-true (n - first) count yes in omega (arith, lt, low)),
  λ c. lt-ltb (n - first) count (let group = from_row first count n c in omega (arith, group.0, group.1)),
)

pub before_row : (first count n : ℕ) → n < first → IsTrue (leb first n) ↔ Contains (range_with_len first count) n
before_row first count n less = (λ yes. let low = leb-true first n yes in absurd (omega (arith, low, less)), λ c. let group = from_row first count n c in absurd (omega (arith, group.0, less)))

-- an element that passes is the first if none before it does
pub is_first : {X : Type 0} (p : X → Bool) (xs : List X) (i : ℕ) (d : X) → i < length xs → p (get_or xs i d) ≡ true → ((j : ℕ) → j < i → p (get_or xs j d) ≡ true → ⊥) → position p xs ≡ Some i
is_first {X} p xs i d lt passes none =
    let x = get_or xs i d in
    let most = first_by p xs i x lt (get_again xs i d x lt) passes in
    let is = found_lt (position_or_len p xs) (length xs) (omega (arith, most, lt)) in
    let rest = position-Some p xs (position_or_len p xs) d is in
    ⊎_elim
    (λ same. is ∙ ap (λ k. Some k) same)
    (λ differ. absurd (none (position_or_len p xs) (grind (arith, most, differ)) rest.1))
    (cases_eq (position_or_len p xs) i)

pub pair_equal : (x y : ℕ × ℕ) → is_eq (pair_cmp x y) ≡ true → x ≡ y
pair_equal x y e = exact_pairs nat_cmp nat_cmp exact_unsigned exact_unsigned x y ((Equal-is (pair_cmp x y)).0 e)

pub equal_pair : (x y : ℕ × ℕ) → x ≡ y → is_eq (pair_cmp x y) ≡ true
equal_pair x y e = ap (λ z. is_eq (pair_cmp x z)) (sym e) ∙ ap (λ o. is_eq (ordering_then o (nat_cmp x.1 x.1))) ((Equal-is (nat_cmp x.0 x.0)).0 (is_equal x.0)) ∙ is_equal x.1
