-- A sorted list without duplicates is a report.
use Rattle.std.proofs.Common.{◌≡◌, ℕ, ◌+◌, ◌<◌, Bool, true, false, cond, List, [], ◌∷◌, length, map, get_or, refl, sym, ap, ◌∙◌, subst, arith}
use Rattle.std.specs.Prelude.{◌↔◌, Contains}
use Rattle.std.specs.Cmp.{Equal-is, IsTotalOrder}
use Rattle.std.specs.List.{dedup, dedup_from}
use Rattle.std.specs.List.Sorted.{IsPermutation, IsSorted, IsStrictlySortedBy}
use Rattle.std.specs.Ordering.{is_eq, is_lt, eq_by_cmp, on}
use Rattle.std.specs.declared.cmp.Ordering.{Ordering}
use Rattle.std.proofs.lemmas.Cmp.{eq_by_cmp_equiv, on_total}
use Rattle.std.proofs.lemmas.List.{get_or-map, length-map}
use Rattle.std.proofs.lemmas.List.Kept.{Contains-dedup, Contains-from_dedup, IsStrictlySortedBy-dedup}
use Rattle.std.proofs.lemmas.List.Sorted.{IsPermutation-map, IsPermutation-sym, Contains-permutation}
use Rattle.source.specs.Findings.{FindingModel}
use Rattle.reports.specs.Orders.{report_cmp}
use Rattle.reports.proofs.OrderLemmas.{report_total, equal_is_same}

same_told : FindingModel → FindingModel → Bool
same_told = eq_by_cmp report_cmp

-- items that have a finding, in the order of their findings
module _ {X : Type 0} (finding : X → FindingModel) where
  -- the order of the findings
  abbrev pub item_cmp : X → X → Ordering
  item_cmp = on finding report_cmp

  pub item_total : IsTotalOrder item_cmp
  item_total = on_total finding report_total

  same_item : X → X → Bool
  same_item = eq_by_cmp item_cmp

  kept_either : (b : Bool) (k : X) (xs ys : List X) (us vs : List FindingModel) → map finding xs ≡ us → map finding ys ≡ vs → map finding (cond b xs (k ∷ ys)) ≡ cond b us (finding k ∷ vs)
  kept_either true k xs ys us vs e f = e
  kept_either false k xs ys us vs e f = ap (λ l. finding k ∷ l) f

  kept_parts_from : (k : X) (xs : List X) → map finding (dedup_from same_item k xs) ≡ dedup_from same_told (finding k) (map finding xs)
  unfolding same_item same_told
  kept_parts_from k [] = refl
  kept_parts_from k (x ∷ xs) = kept_either (is_eq (item_cmp x k)) k _ _ _ _ (kept_parts_from k xs) (kept_parts_from x xs)

  kept_parts : (xs : List X) → map finding (dedup same_item xs) ≡ dedup same_told (map finding xs)
  kept_parts [] = refl
  kept_parts (x ∷ xs) = kept_parts_from x xs

  parts_at : (xs : List X) (k : ℕ) (d : FindingModel) (e : X) → k < length (map finding xs) → get_or (map finding xs) k d ≡ finding (get_or xs k e)
  parts_at xs k d e lt = get_or-map finding xs k e d (omega (arith, length-map xs finding))

  sorted_parts : (xs : List X) → IsSorted item_cmp xs → IsSorted report_cmp (map finding xs)
  sorted_parts [] up = λ k d low high. absurd (omega (arith, high))
  sorted_parts (x ∷ xs) up = λ k d low high.
      let later = parts_at (x ∷ xs) (k + 1) d x high in
      let earlier = parts_at (x ∷ xs) k d x (omega (arith, high)) in
      ap (λ f. is_lt (report_cmp f (get_or (map finding (x ∷ xs)) k d))) later ∙ ap (λ f. is_lt (report_cmp (finding (get_or (x ∷ xs) (k + 1) x)) f)) earlier ∙ up k x low (omega (arith, high, length-map (x ∷ xs) finding))

  -- sorting and dropping duplicates keeps the findings
  pub once_same : (all sorted kept : List X) → IsPermutation all sorted → kept ≡ dedup (eq_by_cmp item_cmp) sorted
      → (f : FindingModel) → Contains (map finding kept) f ↔ Contains (map finding all) f
  unfolding same_item same_told
  once_same all sorted kept moved once f =
      let parts : map finding kept ≡ dedup same_told (map finding sorted) = ap (map finding) once ∙ kept_parts sorted in
      let moves = IsPermutation-map finding all sorted moved in
      let back = IsPermutation-sym _ _ moves in (
        λ c. Contains-permutation _ _ f back (Contains-from_dedup same_told (map finding sorted) f (subst (λ l. Contains l f) parts c)),
        λ c. subst (λ l. Contains l f) (sym parts)
            (Contains-dedup (eq_by_cmp_equiv report_total) (λ a b e. equal_is_same a b ((Equal-is (report_cmp a b)).0 e)) (map finding sorted) f (Contains-permutation _ _ f moves c)),
      )

  -- sorting and dropping duplicates adds no item
  pub once_among : (all sorted kept : List X) → IsPermutation all sorted → kept ≡ dedup (eq_by_cmp item_cmp) sorted → (x : X) → Contains kept x → Contains all x
  once_among all sorted kept moved once x c =
      Contains-permutation _ _ x (IsPermutation-sym _ _ moved) (Contains-from_dedup (eq_by_cmp item_cmp) sorted x (subst (λ l. Contains l x) once c))

  -- sorting and dropping duplicates puts the findings in order
  pub once_ordered : (sorted kept : List X) → IsSorted item_cmp sorted → kept ≡ dedup (eq_by_cmp item_cmp) sorted
      → IsStrictlySortedBy report_cmp (map finding kept)
  unfolding same_item same_told
  once_ordered sorted kept up once =
      let parts : map finding kept ≡ dedup same_told (map finding sorted) = ap (map finding) once ∙ kept_parts sorted in
      subst (IsStrictlySortedBy report_cmp) (sym parts) (IsStrictlySortedBy-dedup report_total (λ a b. refl) (map finding sorted) (sorted_parts sorted up))
