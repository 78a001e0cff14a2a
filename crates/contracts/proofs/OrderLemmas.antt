-- The edges of a contract in order of their states and messages.
use Rattle.std.proofs.Common.{◌≡◌, ℕ, ◌-◌, ◌<◌, ◌≤◌, ◌&&◌, List, length, map, get_or, true, false, eqb, Option, Some, None, sym, refl, ap, ◌∙◌, subst, arith, inl, inr, ⊎_elim}
use Rattle.std.specs.Prelude.{◌⊎◌}
use Rattle.std.specs.Ordering.{is_eq}
use Rattle.std.specs.List.Sorted.{IsPartitionedBy}
use Rattle.std.proofs.lemmas.Bool.{cases_order, cases_eq, true≢false, eq-eqb, eqb-true, and_parts, and_from}
use Rattle.std.proofs.lemmas.Bool.Decides.{nat_tests}
use Rattle.std.proofs.lemmas.List.{length-map, get_or-map}
use Rattle.std.proofs.lemmas.List.Elements.{All-get_or}
use Rattle.std.proofs.lemmas.List.Quantifiers.{position-Some}
use Rattle.program.specs.declared.contract.Edge.{Edge}
use Rattle.contracts.specs.Orders.{key_at, is_below, IsLower, ComesBefore, IsOrder, HasEarlier}
use Rattle.contracts.specs.Positions.{first_with, key_of, pair_cmp}
use Rattle.contracts.proofs.PartLemmas.{get_again}
use Rattle.contracts.proofs.PositionLemmas.{is_first, pair_equal, equal_pair}

-- the key at an index is that of the edge there
pub key_here : (edges : List Edge) (i : ℕ) (d : Edge) → i < length edges → key_at edges i ≡ key_of (get_or edges i d)
key_here edges i d lt = get_or-map key_of edges i d (0, 0) lt

pair : ℕ → ℕ → ℕ × ℕ
pair a b = (a, b)

pub pairs_equal : (x y : ℕ × ℕ) → x.0 ≡ y.0 → x.1 ≡ y.1 → x ≡ y
unfolding pair
pairs_equal x y first second = ap (λ n. pair n x.1) first ∙ ap (pair y.0) second

-- keys that compare as equal are equal
pub keys_equal : (x y : ℕ × ℕ) → (eqb x.0 y.0 && eqb x.1 y.1) ≡ true → x ≡ y
keys_equal x y e = let two = and_parts (eqb x.0 y.0) (eqb x.1 y.1) e in pairs_equal x y (eqb-true x.0 y.0 two.0) (eqb-true x.1 y.1 two.1)

pub equal_keys : (x y : ℕ × ℕ) → x ≡ y → (eqb x.0 y.0 && eqb x.1 y.1) ≡ true
equal_keys x y e = and_from (eqb x.0 y.0) (eqb x.1 y.1) (eq-eqb x.0 y.0 (ap (λ (k : ℕ × ℕ). k.0) e)) (eq-eqb x.1 y.1 (ap (λ (k : ℕ × ℕ). k.1) e))

not_itself : (x y : ℕ × ℕ) → x ≡ y → IsLower x y → ⊥
not_itself x y same low =
    let a = ap (λ (k : ℕ × ℕ). k.0) same in
    let b = ap (λ (k : ℕ × ℕ). k.1) same in
    ⊎_elim (λ less. omega (arith, a, less)) (λ tie. let less = tie.1 in omega (arith, b, less)) low

-- a key between two that are the same is the same
squeezed : (x y z : ℕ × ℕ) → IsLower x y ⊎ (x ≡ y) → IsLower y z ⊎ (y ≡ z) → x ≡ z → y ≡ z
squeezed x y z xy yz same = ⊎_elim
    (λ low. ⊎_elim (λ low'. absurd (both low low')) (λ is. is) yz)
    (λ is. sym is ∙ same)
    xy
  where
    both : IsLower x y → IsLower y z → ⊥
    both low low' =
        let a = ap (λ (k : ℕ × ℕ). k.0) same in
        let b = ap (λ (k : ℕ × ℕ). k.1) same in
        grind (arith, a, b, low, low')

no_higher : (edges : List Edge) (i j : ℕ) → ComesBefore edges i j → IsLower (key_at edges i) (key_at edges j) ⊎ (key_at edges i ≡ key_at edges j)
no_higher edges i j (inl low) = inl low
no_higher edges i j (inr tie) = inr tie.0

-- of two edges with one key, the one that comes first in the order has the lower index
stands_before : (edges : List Edge) (i j : ℕ) → key_at edges i ≡ key_at edges j → ComesBefore edges i j → i < j
stands_before edges i j same (inl low) = absurd (not_itself _ _ same low)
stands_before edges i j same (inr tie) = tie.1

-- the index of each edge is in the order
pub place_of : (edges : List Edge) (order : List ℕ) → IsOrder edges order → (i : ℕ) → i < length edges → (a : ℕ) × (a < length order) × (get_or order a 0 ≡ i)
place_of edges order is i lt = let c = is.all i lt in (c.0, c.1, get_again order c.0 i 0 c.1 ∙ c.2)

pub order_within : (edges : List Edge) (order : List ℕ) → IsOrder edges order → (a : ℕ) → a < length order → get_or order a 0 < length edges
order_within edges order is a lt = All-get_or (λ i. i < length edges) order a 0 lt is.within

-- if an edge has the key of the one before it in the order, an earlier edge has that key
pub after_its_like : (edges : List Edge) (order : List ℕ) (k : ℕ) → IsOrder edges order → 0 < k → k < length order
    → key_at edges (get_or order (k - 1) 0) ≡ key_at edges (get_or order k 0) → HasEarlier edges (get_or order k 0)
after_its_like edges order k is some lt same =
    let before = stands_before edges (get_or order (k - 1) 0) (get_or order k 0) same (is.rises (k - 1) k (omega (arith, some)) lt) in
    (get_or order (k - 1) 0, before, same)

-- and only then
pub its_like_before : (edges : List Edge) (order : List ℕ) (k : ℕ) → IsOrder edges order → k < length order → HasEarlier edges (get_or order k 0)
    → (0 < k) × (key_at edges (get_or order (k - 1) 0) ≡ key_at edges (get_or order k 0))
its_like_before edges order k is lt (j, less, same) = ⊎_elim
    (λ here. absurd (let e = sym at.2 ∙ ap (λ a. get_or order a 0) here in omega (arith, e, less)))
    (λ either. ⊎_elim
    (λ before. (
      omega (arith, before),
      ⊎_elim
          (λ next. ap (λ a. key_at edges (get_or order a 0)) (sym next) ∙ key_a)
          (λ far. squeezed _ _ _
          (no_higher edges _ _ (is.rises at.0 (k - 1) (grind (arith, far, before)) (omega (arith, lt, before))))
          (no_higher edges _ _ (is.rises (k - 1) k (omega (arith, before)) lt))
          key_a)
          (cases_eq at.0 (k - 1)),
    ))
    (λ behind. absurd (let more = stands_before edges _ _ (sym key_a) (is.rises k at.0 behind at.1) in let e = at.2 in omega (arith, more, e, less)))
    either)
    (cases_order at.0 k)
  where
    at : (a : ℕ) × (a < length order) × (get_or order a 0 ≡ j)
    at = place_of edges order is j (let below = order_within edges order is k lt in omega (arith, less, below))

    key_a : key_at edges (get_or order at.0 0) ≡ key_at edges (get_or order k 0)
    key_a = ap (key_at edges) at.2 ∙ same

-- if `is_below` is true, the key is lower
below_is : (edges : List Edge) (i : ℕ) (key : ℕ × ℕ) → is_below edges i key ≡ true → IsLower (key_at edges i) key
below_is edges i key low = grind (arith, nat_tests, low)

is_below_is : (edges : List Edge) (i : ℕ) (key : ℕ × ℕ) → i < length edges → IsLower (key_at edges i) key → is_below edges i key ≡ true
is_below_is edges i key lt low = grind (arith, nat_tests, lt, low)

lower_still : (x y z : ℕ × ℕ) → IsLower x y ⊎ (x ≡ y) → IsLower y z → IsLower x z
lower_still x y z (inr is) low = subst (λ k. IsLower k z) (sym is) low
lower_still x y z (inl low) low' = grind (arith, low, low')

-- no edge of a lower key comes after one of another key
pub parted : (edges : List Edge) (order : List ℕ) (key : ℕ × ℕ) → IsOrder edges order → IsPartitionedBy (λ i. is_below edges i key) order
parted edges order key is i j d le lt low = ⊎_elim
    (λ same. subst (λ k. is_below edges (get_or order k d) key ≡ true) (sym same) low)
    (λ other.
    let less : i < j = grind (arith, le, other) in
    let zero_i : get_or order i d ≡ get_or order i 0 = get_again order i 0 d (omega (arith, less, lt)) in
    let zero_j : get_or order j d ≡ get_or order j 0 = get_again order j 0 d lt in
    subst (λ k. is_below edges k key ≡ true) (sym zero_i)
    (is_below_is edges (get_or order i 0) key (order_within edges order is i (omega (arith, less, lt)))
    (lower_still _ _ _ (no_higher edges _ _ (is.rises i j less lt)) (below_is edges (get_or order j 0) key (subst (λ k. is_below edges k key ≡ true) zero_j low)))))
    (cases_eq i j)

-- the order, parted at t by a key
pub record IsParted (edges : List Edge) (order : List ℕ) (key : ℕ × ℕ) (t : ℕ) : Type 0 where
  pub low : (k : ℕ) → k < t → is_below edges (get_or order k 0) key ≡ true
  pub high : (k : ℕ) → t ≤ k → k < length order → is_below edges (get_or order k 0) key ≡ false

-- an edge with the key is at t or later
from_there : (edges : List Edge) (order : List ℕ) (key : ℕ × ℕ) (t a : ℕ) → IsParted edges order key t → key_at edges (get_or order a 0) ≡ key → t ≤ a
from_there edges order key t a h same = ⊎_elim
    (λ less. absurd (not_itself _ _ same (below_is edges _ key (h.low a less))))
    (λ other. other)
    (cases_le a t)
  where
    cases_le : (x y : ℕ) → (x < y) ⊎ (y ≤ x)
    cases_le x y = grind (arith, nat_tests)

pub first_there : (edges : List Edge) (order : List ℕ) (key : ℕ × ℕ) (t : ℕ) → IsOrder edges order → IsParted edges order key t → t < length order
    → key_at edges (get_or order t 0) ≡ key → first_with edges key ≡ Some (get_or order t 0)
first_there edges order key t is h lt same =
    let size = length-map edges key_of in
    let within = order_within edges order is t lt in
    is_first (λ x. is_eq (pair_cmp key x)) (map key_of edges) (get_or order t 0) (0, 0) (omega (arith, size, within)) (equal_pair key _ (sym same))
    (λ j less passes.
    let at = place_of edges order is j (omega (arith, less, within)) in
    let key_a : key_at edges (get_or order at.0 0) ≡ key = ap (key_at edges) at.2 ∙ sym (pair_equal key _ passes) in
    let from = from_there edges order key t at.0 h key_a in
    ⊎_elim
    (λ here. let e = ap (λ a. get_or order a 0) here ∙ at.2 in omega (arith, e, less))
    (λ other. let more = stands_before edges _ _ (same ∙ sym key_a) (is.rises t at.0 (grind (arith, from, other)) at.1) in let e = at.2 in omega (arith, more, e, less))
    (cases_eq t at.0))

pub first_nowhere : (edges : List Edge) (order : List ℕ) (key : ℕ × ℕ) (t : ℕ) → IsOrder edges order → IsParted edges order key t
    → (t < length order → key_at edges (get_or order t 0) ≡ key → ⊥) → first_with edges key ≡ None
first_nowhere edges order key t is h other = by (first_with edges key) refl
  where
    by : (o : Option ℕ) → first_with edges key ≡ o → first_with edges key ≡ None
    by None at = at
    by (Some i) at =
        let found = position-Some (λ x. is_eq (pair_cmp key x)) (map key_of edges) i (0, 0) at in
        let size = length-map edges key_of in
        let below = found.0 in
        let place = place_of edges order is i (omega (arith, below, size)) in
        let key_a : key_at edges (get_or order place.0 0) ≡ key = ap (key_at edges) place.2 ∙ sym (pair_equal key _ found.1) in
        let from = from_there edges order key t place.0 h key_a in
        let last = place.1 in
        let lt : t < length order = omega (arith, from, last) in
        ⊎_elim
        (λ here. absurd (other lt (ap (λ a. key_at edges (get_or order a 0)) here ∙ key_a)))
        (λ differ. ⊎_elim
        (λ low. absurd (true≢false (sym (is_below_is edges _ key (order_within edges order is t lt) (subst (IsLower (key_at edges (get_or order t 0))) key_a low)) ∙ h.high t (omega arith) lt)))
        (λ same. absurd (other lt (same ∙ key_a)))
        (no_higher edges _ _ (is.rises t place.0 (grind (arith, from, differ)) last)))
        (cases_eq t place.0)
