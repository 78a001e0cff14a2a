-- Sorted entries give the order of the edges.
use Rattle.std.proofs.Common.{◌≡◌, ◌≢◌, ℕ, ◌+◌, ◌<◌, ◌≤◌, List, [], ◌∷◌, ◌++◌, length, map, get_or, false, eqb, sym, refl, ap, ◌∙◌, subst, arith, inl, inr, ⊎_elim}
use Rattle.std.specs.Prelude.{◌⊎◌, All, AllPairs, Contains}
use Rattle.std.specs.Cmp.{IsTotalOrder}
use Rattle.std.specs.declared.cmp.Ordering.{Ordering}
use Rattle.std.specs.Ordering.{is_lt, nat_cmp, ordering_then}
use Rattle.std.specs.List.{IsDistinct}
use Rattle.std.specs.List.Sorted.{IsPermutation, IsSorted}
use Rattle.std.proofs.lemmas.Bool.{cases_eq}
use Rattle.std.proofs.lemmas.Bool.Decides.{nat_tests, Decides-eqb}
use Rattle.std.proofs.lemmas.Cmp.{nat_cmp_total, nat_eq_equiv, on_total, then_total}
use Rattle.std.proofs.lemmas.List.{length-map, get_or-map, get_or_append_left, get_or_push}
use Rattle.std.proofs.lemmas.List.Elements.{All-map}
use Rattle.std.proofs.lemmas.List.Sorted.{All-permutation, Contains-permutation, IsPermutation-map, ranks_by, sorted_far}
use Rattle.std.proofs.lemmas.Map.Keys.{IsDistinct-IsPermutation}
use Rattle.std.proofs.lemmas.Map.Made.{AllPairs-from_IsDistinct, IsDistinct-from_AllPairs}
use Rattle.std.proofs.Math.ListN.{length-append}
use Rattle.program.specs.declared.contract.Edge.{Edge}
use Rattle.contracts.specs.Orders.{AreEntries, ComesBefore, IsLower, IsOrder, key_at}
use Rattle.contracts.specs.Positions.{pair_cmp}
use Rattle.contracts.proofs.OrderLemmas.{pairs_equal}
use Rattle.contracts.proofs.PartLemmas.{contains_map, get_again}

abbrev pub Entry : Type 0
Entry = (ℕ × ℕ) × ℕ

-- the index in an entry
abbrev pub place : Entry → ℕ
place e = e.1

-- how entries are compared
abbrev pub entry_cmp : Entry → Entry → Ordering
entry_cmp x y = ordering_then (pair_cmp x.0 y.0) (nat_cmp x.1 y.1)

entry_total : IsTotalOrder entry_cmp
entry_total = then_total (on_total (λ (e : Entry). e.0) (then_total (on_total (λ (k : ℕ × ℕ). k.0) nat_cmp_total) (on_total (λ (k : ℕ × ℕ). k.1) nat_cmp_total))) (on_total place nat_cmp_total)

pub no_entries : (edges : List Edge) → AreEntries edges 0 []
no_entries edges = record { long = refl; each = λ i lt. absurd (omega (arith, lt)) }

pub entries_more : (edges : List Edge) (n : ℕ) (entries : List Entry) → AreEntries edges n entries → AreEntries edges (n + 1) (entries ++ (key_at edges n, n) ∷ [])
entries_more edges n entries h = record {
  long = let size = length-append entries ((key_at edges n, n) ∷ []) in let was = h.long in omega (arith, size, was);
  each = λ i lt. ⊎_elim
      (λ same. get_or_push entries (key_at edges n, n) ((0, 0), 0) i (h.long ∙ sym same) ∙ ap (λ k. made edges k) (sym same))
      (λ other. let less : i < n = grind (arith, lt, other) in
      get_or_append_left entries ((key_at edges n, n) ∷ []) ((0, 0), 0) i (let size = h.long in omega (arith, size, less)) ∙ h.each i less)
      (cases_eq i n);
}
  where
    made : List Edge → ℕ → Entry
    made edges k = (key_at edges k, k)

-- an entry that is not lower than another is equal to it or comes after it
not_lower : (x y : Entry) → is_lt (entry_cmp y x) ≡ false → IsLower x.0 y.0 ⊎ ((x.0 ≡ y.0) × (x.1 ≤ y.1))
not_lower x y up = ⊎_elim
    (λ less. inl (inl less))
    (λ rest. ⊎_elim
    (λ less. inl (inr (rest.0, less)))
    (λ tie. inr (pairs_equal x.0 y.0 rest.0 tie.0, tie.1))
    rest.1)
    (numbers x.0.0 x.0.1 x.1 y.0.0 y.0.1 y.1 up)
  where
    numbers : (a b c d e f : ℕ) → is_lt (ordering_then (ordering_then (nat_cmp d a) (nat_cmp e b)) (nat_cmp f c)) ≡ false
        → (a < d) ⊎ ((a ≡ d) × ((b < e) ⊎ ((b ≡ e) × (c ≤ f))))
    numbers a b c d e f h = grind (arith, nat_tests, h)

-- an entry has the key of the edge at its index
abbrev IsRight : List Edge → Entry → Type 0
IsRight edges e = (e.1 < length edges) × (e.0 ≡ key_at edges e.1)

all_right : (edges : List Edge) (entries : List Entry) → AreEntries edges (length edges) entries → All (IsRight edges) entries
all_right edges entries h = λ i d lt.
    let size = h.long in
    let below : i < length edges = omega (arith, lt, size) in
    let is : get_or entries i d ≡ (key_at edges i, i) = get_again entries i ((0, 0), 0) d lt ∙ h.each i below in
    subst (IsRight edges) (sym is) (below, refl)

-- each index is in one entry
all_once : (edges : List Edge) (entries : List Entry) → AreEntries edges (length edges) entries → AllPairs (λ x y. x ≢ y) (map place entries)
all_once edges entries h = λ i j d less lt same.
    let size = length-map entries place in
    let long = h.long in
    let at : (k : ℕ) → k < length entries → get_or (map place entries) k d ≡ k = λ k below. get_or-map place entries k ((0, 0), 0) d below ∙ ap place (h.each k (omega (arith, below, long))) in
    let a = at i (omega (arith, less, lt, size)) in
    let b = at j (omega (arith, lt, size)) in
    absurd (omega (arith, a, b, same, less))

pub order_made : (edges : List Edge) (entries sorted : List Entry) → AreEntries edges (length edges) entries → IsPermutation entries sorted → IsSorted entry_cmp sorted → IsOrder edges (map place sorted)
order_made edges entries sorted h moved up = record {
  within = All-map (λ i. i < length edges) place sorted (λ i d lt. (right i d lt).0);
  all = λ i lt.
      let long = h.long in
      let is : Contains entries (key_at edges i, i) = (i, omega (arith, lt, long), get_again entries i ((0, 0), 0) _ (omega (arith, lt, long)) ∙ h.each i lt) in
      contains_map place sorted (key_at edges i, i) (Contains-permutation entries sorted (key_at edges i, i) moved is);
  rises = λ a b less lt.
      let size = length-map sorted place in
      let lt_b : b < length sorted = omega (arith, lt, size) in
      let lt_a : a < length sorted = omega (arith, less, lt_b) in
      let x = get_or sorted a ((0, 0), 0) in
      let y = get_or sorted b ((0, 0), 0) in
      let differ = AllPairs-from_IsDistinct Decides-eqb (map place sorted) distinct a b 0 less lt in
      subst (λ i. ComesBefore edges i (get_or (map place sorted) b 0)) (sym (at a lt_a))
      (subst (λ j. ComesBefore edges x.1 j) (sym (at b lt_b))
      (comes x y (right a _ lt_a) (right b _ lt_b) (λ same. differ (at a lt_a ∙ same ∙ sym (at b lt_b)))
      (not_lower x y (sorted_far (λ x y. is_lt (entry_cmp x y)) (ranks_by entry_total (λ e. e)) sorted up a b _ (omega (arith, less)) lt_b))));
}
  where
    right : All (IsRight edges) sorted
    right = All-permutation (IsRight edges) entries sorted moved (all_right edges entries h)

    distinct : IsDistinct eqb (map place sorted)
    distinct = IsDistinct-IsPermutation eqb nat_eq_equiv.symm (map place entries) (map place sorted) (IsPermutation-map place entries sorted moved)
        (IsDistinct-from_AllPairs Decides-eqb (map place entries) (all_once edges entries h))

    at : (k : ℕ) → k < length sorted → get_or (map place sorted) k 0 ≡ (get_or sorted k ((0, 0), 0)).1
    at k lt = get_or-map place sorted k ((0, 0), 0) 0 lt

    comes : (x y : Entry) → IsRight edges x → IsRight edges y → (x.1 ≡ y.1 → ⊥) → IsLower x.0 y.0 ⊎ ((x.0 ≡ y.0) × (x.1 ≤ y.1)) → ComesBefore edges x.1 y.1
    comes x y rx ry differ (inl low) = inl (subst (λ k. IsLower k (key_at edges y.1)) rx.1 (subst (IsLower x.0) ry.1 low))
    comes x y rx ry differ (inr tie) = inr (sym rx.1 ∙ tie.0 ∙ ry.1, let most = tie.1 in grind (arith, most, differ))
