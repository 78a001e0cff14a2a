-- If no vertex is on a ring, each height is known.
use Rattle.std.proofs.Common.{◌≡◌, ℕ, zero, suc, ◌+◌, ◌<◌, ◌≤◌, List, [], ◌∷◌, length, get_or, Option, Some, None, Bool, true, false, sym, refl, ap, ◌∙◌, subst, arith, ⊎_elim}
use Rattle.std.specs.Prelude.{All, Contains, IsTrue, ◌⊎◌, is_some, unwrap_or}
use Rattle.std.proofs.Math.ListN.{set, length-set, replicate}
use Rattle.std.proofs.lemmas.List.{get_or-replicate, get_or-set_other, length-replicate}
use Rattle.std.proofs.lemmas.List.Elements.{All-contains}
use Rattle.std.proofs.lemmas.Bool.{cases_eq, cases_Bool, true≢false}
use Rattle.contracts.specs.Graphs.{Walk, HasEdge, InRange, OnRing, IsHeight, height_at, group_at}
use Rattle.contracts.specs.Marking.{IsMarked, count_of_unmarked}
use Rattle.contracts.specs.Rings.{AreRings}
use Rattle.contracts.specs.Peeling.{AreHeights, IsHeightSettled}
use Rattle.contracts.specs.Reached.{IsLongest, counted_height}
use Rattle.contracts.proofs.MarkLemmas.{unmarked_set, marked_in}
use Rattle.contracts.proofs.Rings.{in_row, no_ring, walk_on}

-- walks from a vertex without a height arrive at a ring; the marked vertices were passed
ring_from : (graph : List (List ℕ)) (heights : List (Option ℕ)) → InRange graph → ((v : ℕ) → v < length graph → IsHeightSettled graph heights v)
    → (fuel : ℕ) (marks : List Bool) (v : ℕ) → length marks ≡ length graph → count_of_unmarked marks ≡ fuel → v < length graph → height_at heights v ≡ None
    → ((u : ℕ) → IsMarked marks u → (n : ℕ) × Walk graph u v (suc n)) → (u : ℕ) × OnRing graph u
ring_from graph heights range settled zero marks v long left lt none passed = ⊎_elim
    (λ marked. (v, passed v marked))
    (λ free. absurd (let e = unmarked_set marks v (omega (arith, lt, long)) free in omega (arith, e, left)))
    (cases_Bool (get_or marks v false))
ring_from graph heights range settled (suc fuel) marks v long left lt none passed = ⊎_elim
    (λ marked. (v, passed v marked))
    (λ free.
    let next = settled v lt none in
    let fewer = unmarked_set marks v (omega (arith, lt, long)) free in
    ring_from graph heights range settled fuel (set marks v true) next.to
    (length-set marks v true ∙ long) (omega (arith, fewer, left))
    (All-contains (λ x. x < length graph) (group_at graph v) next.to (range v) next.edge) next.none
    (λ u is. ⊎_elim
    (λ same. (0, (next.to, subst (λ x. HasEdge graph x next.to) (sym same) next.edge, refl)))
    (λ other. let before = passed u (sym (get_or-set_other marks v u true false other) ∙ is) in
    (before.0 + 1, subst (λ k. Walk graph u next.to k) (let e : suc before.0 + 1 ≡ suc (before.0 + 1) = omega arith in e) (walk_on graph (suc before.0) 1 u v next.to before.1 (next.to, next.edge, refl))))
    (cases_eq u v)))
    (cases_Bool (get_or marks v false))

none_marked : (n u : ℕ) → IsMarked (replicate n false) u → ⊥
none_marked zero u is = true≢false (sym is)
none_marked (suc n) zero is = true≢false (sym is)
none_marked (suc n) (suc u) is = none_marked n u is

-- each height is known
pub known : (graph : List (List ℕ)) (heights : List (Option ℕ)) → InRange graph → ((v : ℕ) → v < length graph → IsHeightSettled graph heights v) → ((v : ℕ) → OnRing graph v → ⊥) → (v : ℕ) → v < length graph → (n : ℕ) × (height_at heights v ≡ Some n)
known graph heights range settled quiet v lt = decide (height_at heights v) refl
  where
    decide : (o : Option ℕ) → height_at heights v ≡ o → (n : ℕ) × (height_at heights v ≡ Some n)
    decide (Some n) is = (n, is)
    decide None is =
        let ring = ring_from graph heights range settled (count_of_unmarked (replicate (length graph) false)) (replicate (length graph) false) v (length-replicate (length graph) false) refl lt is
        (λ u marked. absurd (none_marked (length graph) u marked)) in
        absurd (quiet ring.0 ring.1)

-- the greatest height of a marked vertex is the greatest length of a walk from one
pub longest_is : (graph : List (List ℕ)) (heights : List (Option ℕ)) (marks : List Bool) (s n : ℕ) → length marks ≡ length graph → IsMarked marks s
    → ((v : ℕ) → v < length graph → (k : ℕ) × (height_at heights v ≡ Some k))
    → ((v k : ℕ) → height_at heights v ≡ Some k → IsHeight graph v k)
    → ((v : ℕ) → v < length graph → counted_height (height_at heights v) (get_or marks v false) ≤ n)
    → (n ≡ 0) ⊎ ((v : ℕ) × (v < length graph) × (counted_height (height_at heights v) (get_or marks v false) ≡ n))
    → IsLongest graph marks n
longest_is graph heights marks s n long start known right most some = ⊎_elim
    (λ none. at_start none)
    (λ v. ⊎_elim
    (λ marked. let k = known v.0 v.1 in
    let same : k.0 ≡ n = sym (height_of v.0 k.0 marked k.1) ∙ v.2 in
    let h = right v.0 k.0 k.1 in
    record { most = longer; from = v.0; to = h.to; marked = marked; walk = subst (λ x. Walk graph v.0 h.to x) same h.walk })
    (λ free. at_start (sym v.2 ∙ ap (counted_height (height_at heights v.0)) free))
    (cases_Bool (get_or marks v.0 false)))
    some
  where
    height_of : (v k : ℕ) → IsMarked marks v → height_at heights v ≡ Some k → counted_height (height_at heights v) (get_or marks v false) ≡ k
    height_of v k marked is = ap (counted_height (height_at heights v)) marked ∙ ap (λ o. unwrap_or o 0) is

    longer : (v w m : ℕ) → IsMarked marks v → Walk graph v w m → m ≤ n
    longer v w m marked walk =
        let lt : v < length graph = let e = marked_in marks v marked in omega (arith, e, long) in
        let k = known v lt in
        let a = (right v k.0 k.1).most w m walk in
        let b = most v lt in
        let c = height_of v k.0 marked k.1 in
        omega (arith, a, b, c)

    at_start : n ≡ 0 → IsLongest graph marks n
    at_start none = record { most = longer; from = s; to = s; marked = start; walk = subst (λ x. Walk graph s s x) (sym none) refl }

pub counted_le : (o : Option ℕ) (k : ℕ) (mark : Bool) → o ≡ Some k → counted_height o mark ≤ k
counted_le o k true is = let e = ap (λ x. unwrap_or x 0) is in omega (arith, e)
counted_le o k false is = omega arith

-- a counted height is below any number that all known heights are below
pub counted_below : (o : Option ℕ) (mark : Bool) (count : ℕ) → 0 < count → ((n : ℕ) → o ≡ Some n → n < count) → counted_height o mark < count
counted_below o false count some all = some
counted_below (Some n) true count some all = all n refl
counted_below None true count some all = some

pub only_one : (x s : ℕ) → Contains (x ∷ []) s → x ≡ s
only_one x s (zero, lt, e) = e
only_one x s (suc k, lt, e) = absurd (omega (arith, lt))

-- if each vertex has a longest walk, none is on a ring: going round would make that walk longer
pub quiet : (graph : List (List ℕ)) (heights : List (Option ℕ)) → AreHeights graph heights → All (λ h. IsTrue (is_some h)) heights → (v : ℕ) → OnRing graph v → ⊥
quiet graph heights h known v ring =
    let lt = in_row graph v ring.1.0 ring.1.1 in
    let long = h.long in
    let there = some_there (height_at heights v) (known v None (omega (arith, lt, long))) in
    no_ring graph v there.0 (h.right v there.0 there.1) ring
  where
    some_there : (o : Option ℕ) → is_some o ≡ true → (n : ℕ) × (o ≡ Some n)
    some_there None is = absurd (true≢false (sym is))
    some_there (Some n) is = (n, refl)

-- so no vertex is marked
pub quiet_rings : (graph : List (List ℕ)) (heights : List (Option ℕ)) (marks : List Bool) → AreHeights graph heights → All (λ h. IsTrue (is_some h)) heights → marks ≡ replicate (length graph) false → AreRings graph marks
quiet_rings graph heights marks h known is = record {
  long = ap length is ∙ length-replicate (length graph) false;
  tells = λ v lt. record {
    yes = λ on. absurd (true≢false (sym on ∙ ap (λ l. get_or l v true) is ∙ get_or-replicate (length graph) v false true lt));
    no = λ ring. absurd (quiet graph heights h known v ring);
  };
}
