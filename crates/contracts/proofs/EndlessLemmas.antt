-- Vertices from which walks can be arbitrarily long, and heights that wait for them.
use Rattle.std.proofs.Common.{◌≡◌, ℕ, suc, ◌+◌, ◌<◌, ◌≤◌, List, length, take, get_or, Option, Some, None, sym, refl, ◌∙◌, subst, arith, ⊎_elim, true}
use Rattle.std.specs.Prelude.{All, Contains, IsTrue, is_some}
use Rattle.std.proofs.lemmas.Bool.{true≢false}
use Rattle.std.proofs.lemmas.List.{get_or-take, get_or_default, length-take}
use Rattle.contracts.specs.Graphs.{HasEdge, IsHeight, OnRing, Walk, height_at}
use Rattle.contracts.specs.Peeling.{AreHeights, IsPeeled, IsHeightSettled}
use Rattle.contracts.specs.Searches.{ComeAfter, IsFinishing}
use Rattle.contracts.proofs.Rings.{rounds, walk_on}

abbrev pub Endless : List (List ℕ) → ℕ → Type 0
Endless graph v = (n : ℕ) → (m : ℕ) × (n ≤ m) × ((w : ℕ) × Walk graph v w m)

ring_endless : (graph : List (List ℕ)) (v : ℕ) → OnRing graph v → Endless graph v
ring_endless graph v ring n = let r = rounds graph v ring.0 n ring.1 in (r.0, r.1, (v, r.2))

edge_endless : (graph : List (List ℕ)) (v w : ℕ) → HasEdge graph v w → Endless graph w → Endless graph v
edge_endless graph v w edge more n = let r = more n in let le = r.1 in (suc r.0, omega (arith, le), (r.2.0, (w, edge, r.2.1)))

no_height : (graph : List (List ℕ)) (v n : ℕ) → IsHeight graph v n → Endless graph v → ⊥
no_height graph v n h more = let r = more (suc n) in let le = r.1 in let most = h.most r.2.0 r.0 r.2.1 in absurd (omega (arith, le, most))

-- if the height is unknown, there is none, and an edge shows why
abbrev pub Waits : List (List ℕ) → List (Option ℕ) → ℕ → Type 0
Waits graph heights v = height_at heights v ≡ None → (w : ℕ) × HasEdge graph v w × Endless graph w

-- a vertex that was looked at waits, since its successors were looked at before it or lead back
pub waits_next : (graph : List (List ℕ)) (order : List ℕ) (heights : List (Option ℕ)) (i : ℕ) → ComeAfter graph order → i < length order
    → ((k : ℕ) → k < i → Waits graph heights (get_or order k 0)) → IsHeightSettled graph heights (get_or order i 0) → Waits graph heights (get_or order i 0)
waits_next graph order heights i after lt before settled none =
    let next = settled none in (
      next.to,
      next.edge,
      ⊎_elim
          (λ earlier. waited next.to next.none earlier)
          (λ back. ring_endless graph next.to (
            back.0,
            subst (λ k. Walk graph next.to next.to k) (let e : back.0 + 1 ≡ suc back.0 = omega arith in e)
                (walk_on graph back.0 1 next.to (get_or order i 0) next.to back.1 (next.to, next.edge, refl)),
          ))
          (after i next.to lt next.edge),
    )
  where
    waited : (w : ℕ) → height_at heights w ≡ None → Contains (take i order) w → Endless graph w
    waited w unknown (k, in_k, e) =
        let size = length-take i order in
        let less : k < i = omega (arith, in_k, size) in
        let at = sym (get_or-take i order k 0 less) ∙ get_or_default (take i order) k 0 w in_k ∙ e in
        let more = before k less (subst (λ x. height_at heights x ≡ None) (sym at) unknown) in
        subst (Endless graph) at (edge_endless graph (get_or order k 0) more.0 more.1 more.2)

pub heights_all : (graph : List (List ℕ)) (order : List ℕ) (heights : List (Option ℕ)) → IsPeeled graph heights → IsFinishing graph order
    → ((k : ℕ) → k < length order → Waits graph heights (get_or order k 0)) → AreHeights graph heights
heights_all graph order heights p f waits = record {
  long = p.long;
  right = p.right;
  below = λ v n is. let small = p.small v n is in let long = p.long in omega (arith, small, long);
  settled = λ v lt none. looked_at v (f.all v lt) none;
}
  where
    still_none : (w : ℕ) → Endless graph w → (o : Option ℕ) → height_at heights w ≡ o → height_at heights w ≡ None
    still_none w more None is = is
    still_none w more (Some n) is = absurd (no_height graph w n (p.right w n is) more)

    looked_at : (v : ℕ) → Contains order v → IsHeightSettled graph heights v
    looked_at v (k, lt, e) none =
        let at = get_or_default order k 0 v lt ∙ e in
        let more = waits k lt (subst (λ x. height_at heights x ≡ None) (sym at) none) in
        record { to = more.0; edge = subst (λ x. HasEdge graph x more.0) at more.1; none = still_none more.0 more.2 (height_at heights more.0) refl }

-- if all heights are known, they are the heights of the graph
pub heights_known : (graph : List (List ℕ)) (heights : List (Option ℕ)) → IsPeeled graph heights → All (λ h. IsTrue (is_some h)) heights → AreHeights graph heights
heights_known graph heights p known = record {
  long = p.long;
  right = p.right;
  below = λ v n is. let small = p.small v n is in let long = p.long in omega (arith, small, long);
  settled = λ v lt none. absurd (wrong (height_at heights v) none (known v None (let long = p.long in omega (arith, lt, long))));
}
  where
    wrong : (o : Option ℕ) → o ≡ None → is_some o ≡ true → ⊥
    wrong None is some = true≢false (sym some)
    wrong (Some n) is some = cc
