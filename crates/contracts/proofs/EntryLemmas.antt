-- What a search for components keeps as it enters a new vertex.
use Rattle.std.proofs.Common.{◌≡◌, ℕ, zero, suc, ◌+◌, ◌<◌, ◌≤◌, List, [], ◌∷◌, ◌++◌, length, map, get_or, cond, sym, refl, ap, ◌∙◌, subst, arith, inl, inr, ⊎_elim, Bool}
use Rattle.std.specs.Prelude.{◌⊎◌, Contains, count_by}
use Rattle.std.proofs.Math.ListN.{set, length-set}
use Rattle.std.proofs.lemmas.List.{get_or-set_same, get_or-set_other, get_or_append_left, get_or-map, get_or_push, length-map, length_push, map-append}
use Rattle.std.proofs.lemmas.List.Elements.{Contains-append_cases, Contains-append_left, Contains-append_right, Contains-push, Contains-push_cases}
use Rattle.std.proofs.lemmas.List.Sums.{sum_by-set}
use Rattle.std.proofs.lemmas.Bool.{cases_eq}
use Rattle.contracts.specs.declared.arcs.Arc.{Arc}
use Rattle.contracts.specs.declared.components.VertexStatus.{VertexStatus}
use Rattle.contracts.specs.declared.components.VertexStatus.TheVariants.{New, Pending, Complete}
use Rattle.contracts.specs.Arcs.{arc}
use Rattle.contracts.specs.Graphs.{HasEdge, group_at}
use Rattle.contracts.specs.Searches.{AreFound, AreRising, IsSearch, IsFollowed, CanReach, NotBefore, is_new, status_at}
use Rattle.contracts.proofs.PartLemmas.{at_place, contains_map}
use Rattle.contracts.proofs.ListLemmas.{made_from}
use Rattle.contracts.proofs.RisingLemmas.{rising_append, only, one_rises}
use Rattle.contracts.proofs.StatusLemmas.{pending_same}
use Rattle.contracts.proofs.ComponentLemmas.{leads_here}

-- a new vertex is entered, and all pending ones lead to it
module _ (graph : List (List ℕ)) (statuses : List VertexStatus) (pending bounds : List ℕ) (arcs : List Arc) (v : ℕ) (in_v : v < length graph)
    (new : status_at statuses v ≡ New) (leads : (i : ℕ) → i < length pending → CanReach graph (get_or pending i 0) v) (s : IsSearch graph statuses pending bounds arcs) where
  abbrev more : List VertexStatus
  more = set statuses v (Pending (length pending))

  this : status_at more v ≡ Pending (length pending)
  this = get_or-set_same statuses v (Pending (length pending)) New (let e = s.long in omega (arith, e, in_v))

  other : (u : ℕ) (x : VertexStatus) → status_at statuses u ≡ x → (x ≡ New → ⊥) → status_at more u ≡ x
  other u x is met = get_or-set_other statuses v u (Pending (length pending)) New (λ same. met (sym is ∙ ap (status_at statuses) same ∙ new)) ∙ is

  size : length (pending ++ v ∷ []) ≡ length pending + 1
  size = length_push pending v

  before : (i : ℕ) → i < length pending → get_or (pending ++ v ∷ []) i 0 ≡ get_or pending i 0
  before i lt = get_or_append_left pending (v ∷ []) 0 i lt

  last : (i : ℕ) → i ≡ length pending → get_or (pending ++ v ∷ []) i 0 ≡ v
  last i same = get_or_push pending v 0 i (sym same)

  abbrev ends : List Arc
  ends = map (arc (length pending)) (group_at graph v)

  -- each pending vertex leads to all that are not before its component
  met_leads : (i j : ℕ) → i < length (pending ++ v ∷ []) → j < length (pending ++ v ∷ []) → NotBefore (bounds ++ length pending ∷ []) i j
      → CanReach graph (get_or (pending ++ v ∷ []) i 0) (get_or (pending ++ v ∷ []) j 0)
  met_leads i j in_i in_j h = ⊎_elim
      (λ same. let le = h (length pending) (Contains-push bounds (length pending)) (omega (arith, same)) in
      leads_here graph (get_or (pending ++ v ∷ []) i 0) (get_or (pending ++ v ∷ []) j 0) (last i same ∙ sym (last j (omega (arith, le, in_j, size)))))
      (λ differ. let less : i < length pending = grind (arith, in_i, size, differ) in
      subst (λ x. CanReach graph x (get_or (pending ++ v ∷ []) j 0)) (sym (before i less))
      (⊎_elim
      (λ same. subst (CanReach graph (get_or pending i 0)) (sym (last j same)) (leads i less))
      (λ other_j. let less_j : j < length pending = grind (arith, in_j, size, other_j) in
      subst (CanReach graph (get_or pending i 0)) (sym (before j less_j))
      (s.joined i j less less_j (λ b c le. h b (Contains-append_left bounds (length pending ∷ []) b c) le)))
      (cases_eq j (length pending))))
      (cases_eq i (length pending))

  followed_still : (i w : ℕ) → i < length pending → IsFollowed statuses bounds i w → IsFollowed more (bounds ++ length pending ∷ []) i w
  followed_still i w lt is = ⊎_elim
      (λ complete. inl (other w Complete complete (λ e. cc)))
      (λ here. inr (
        here.0,
        other w (Pending here.0) here.1 (λ e. cc),
        λ b c le. ⊎_elim (λ old. here.2 b old le) (λ same. absurd (omega (arith, same, le, lt))) (Contains-push_cases bounds (length pending) b c),
      ))
      is

  met_followed : (i w : ℕ) → i < length (pending ++ v ∷ []) → HasEdge graph (get_or (pending ++ v ∷ []) i 0) w
      → Contains (arcs ++ ends) (arc i w) ⊎ IsFollowed more (bounds ++ length pending ∷ []) i w
  met_followed i w in_i edge = ⊎_elim
      (λ same. inl (subst (λ k. Contains (arcs ++ ends) (arc k w)) (sym same)
      (Contains-append_right arcs ends (arc (length pending) w) (contains_map (arc (length pending)) (group_at graph v) w (subst (λ x. HasEdge graph x w) (last i same) edge)))))
      (λ differ. let less : i < length pending = grind (arith, in_i, size, differ) in ⊎_elim
      (λ left. inl (Contains-append_left arcs ends (arc i w) left))
      (λ done. inr (followed_still i w less done))
      (s.followed i w less (subst (λ x. HasEdge graph x w) (before i less) edge)))
      (cases_eq i (length pending))

  met_left : (a : Arc) → Contains (arcs ++ ends) a → (a.from < length (pending ++ v ∷ [])) × HasEdge graph (get_or (pending ++ v ∷ []) a.from 0) a.to
  met_left a c = ⊎_elim
      (λ old. let r = s.left a old in
      let lt = r.0 in
      (omega (arith, lt, size), subst (λ x. HasEdge graph x a.to) (sym (before a.from lt)) r.1))
      (λ added. let m = made_from (arc (length pending)) (group_at graph v) a added in
      let from : length pending ≡ a.from = ap (λ (x : Arc). x.from) m.2 in
      let to : m.0 ≡ a.to = ap (λ (x : Arc). x.to) m.2 in
      (omega (arith, from, size), subst (λ x. HasEdge graph x a.to) (sym (last a.from (sym from))) (subst (HasEdge graph v) to m.1)))
      (Contains-append_cases arcs ends a c)

  met_rise : AreRising (map (λ (a : Arc). a.from) (arcs ++ ends))
  met_rise = subst AreRising (sym (map-append (λ (a : Arc). a.from) arcs ends))
      (rising_append (map (λ (a : Arc). a.from) arcs) (map (λ (a : Arc). a.from) ends) s.arcs_rise
      (λ j k le lt. let a = all_here (group_at graph v) k lt in let b = all_here (group_at graph v) j (omega (arith, le, lt)) in omega (arith, a, b))
      (λ j k in_j in_k. let a = all_here (group_at graph v) k in_k in let b = ahead j in_j in omega (arith, a, b)))
    where
      all_here : (group : List ℕ) (k : ℕ) → k < length (map (λ (a : Arc). a.from) (map (arc (length pending)) group)) → get_or (map (λ (a : Arc). a.from) (map (arc (length pending)) group)) k 0 ≡ length pending
      all_here [] k lt = absurd (omega (arith, lt))
      all_here (w ∷ ws) zero lt = refl
      all_here (w ∷ ws) (suc k) lt = all_here ws k (omega (arith, lt))

      ahead : (j : ℕ) → j < length (map (λ (a : Arc). a.from) arcs) → get_or (map (λ (a : Arc). a.from) arcs) j 0 ≤ length pending
      ahead j lt = let long = length-map arcs (λ (a : Arc). a.from) in
          let at = get_or-map (λ (a : Arc). a.from) arcs j (arc 0 0) 0 (omega (arith, lt, long)) in
          let r = s.left (get_or arcs j (arc 0 0)) (at_place arcs j (arc 0 0) (omega (arith, lt, long))) in
          let below = r.0 in
          omega (arith, at, below)

  pub entered : IsSearch graph more (pending ++ v ∷ []) (bounds ++ length pending ∷ []) (arcs ++ ends)
  entered = record {
    long = length-set statuses v (Pending (length pending)) ∙ s.long;
    placed = λ u p is. ⊎_elim
        (λ same. let here : length pending ≡ p = pending_same (length pending) p (sym this ∙ sym (ap (status_at more) same) ∙ is) in
        (omega (arith, here, size), last p (sym here) ∙ sym same))
        (λ differ. let r = s.placed u p (sym (get_or-set_other statuses v u (Pending (length pending)) New differ) ∙ is) in
        let lt = r.0 in
        (omega (arith, lt, size), before p lt ∙ r.1))
        (cases_eq u v);
    held = λ p lt. ⊎_elim
        (λ same. ap (status_at more) (last p same) ∙ this ∙ ap Pending (sym same))
        (λ differ. let less : p < length pending = grind (arith, lt, size, differ) in
        ap (status_at more) (before p less) ∙ other (get_or pending p 0) (Pending p) (s.held p less) (λ e. cc))
        (cases_eq p (length pending));
    joined = met_leads;
    followed = met_followed;
    left = met_left;
    arcs_rise = met_rise;
    bounds_rise = rising_append bounds (length pending ∷ []) s.bounds_rise (one_rises (length pending))
        (λ j k in_j in_k. let le = s.within (get_or bounds j 0) (at_place bounds j 0 in_j) in
        let e : get_or (length pending ∷ []) k 0 ≡ length pending = only (length pending) k in_k in
        omega (arith, le, e));
    within = λ b c. ⊎_elim
        (λ old. let le = s.within b old in omega (arith, le, size))
        (λ same. omega (arith, same, size))
        (Contains-push_cases bounds (length pending) b c);
    first = λ _. ⊎_elim
        (λ none. subst (Contains (bounds ++ length pending ∷ [])) none (Contains-push bounds (length pending)))
        (λ some. let less : 0 < length pending = grind (arith, some) in Contains-append_left bounds (length pending ∷ []) 0 (s.first less))
        (cases_eq (length pending) 0);
  }

  still_complete : (u : ℕ) → status_at more u ≡ Complete → status_at statuses u ≡ Complete
  still_complete u is = ⊎_elim
      (λ same. let e = ap (status_at more) same in let e2 = this in absurd (cc))
      (λ differ. sym (get_or-set_other statuses v u (Pending (length pending)) New differ) ∙ is)
      (cases_eq u v)

  pub entered_found : (rings : List Bool) (order : List ℕ) → AreFound graph statuses rings order → AreFound graph more rings order
  entered_found rings order f = record {
    long = f.long;
    closed = λ u w is edge. other w Complete (f.closed u w (still_complete u is) edge) (λ e. cc);
    tells = λ u is. f.tells u (still_complete u is);
    listed = λ u is. f.listed u (still_complete u is);
    within = f.within;
    after = f.after;
  }

  -- one vertex fewer is new
  pub fewer_new : count_by is_new more + 1 ≡ count_by is_new statuses
  fewer_new =
      let f : VertexStatus → ℕ = λ x. cond (is_new x) 1 0 in
      let long = s.long in
      let e = sum_by-set f statuses v (Pending (length pending)) New (omega (arith, long, in_v)) in
      let one : f (status_at statuses v) ≡ 1 = ap f new in
      omega (arith, e, one)
