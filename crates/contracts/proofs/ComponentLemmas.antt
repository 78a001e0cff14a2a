-- What a search for components keeps as it takes an arc off and joins components.
use Rattle.std.proofs.Common.{◌≡◌, ℕ, ◌+◌, ◌-◌, ◌<◌, ◌≤◌, List, [], ◌∷◌, ◌++◌, length, map, take, get_or, sym, refl, ap, subst, arith, inl, inr, ⊎_elim, Bool}
use Rattle.std.specs.Prelude.{All, Contains, count_by}
use Rattle.std.proofs.lemmas.List.{map-append}
use Rattle.std.proofs.lemmas.List.Elements.{All-contains, All-from_get_or, Contains-append_left, Contains-push, Contains-push_cases}
use Rattle.std.proofs.lemmas.Bool.{cases_lt}
use Rattle.contracts.specs.declared.arcs.Arc.{Arc}
use Rattle.contracts.specs.declared.components.VertexStatus.{VertexStatus}
use Rattle.contracts.specs.declared.components.VertexStatus.TheVariants.{New, Pending, Complete}
use Rattle.contracts.specs.Arcs.{arc}
use Rattle.contracts.specs.Graphs.{HasEdge, InRange, group_at}
use Rattle.contracts.specs.Searches.{AreBoundsTo, AreFound, AreRising, IsNextEnd, IsSearch, IsFollowed, CanReach, is_new, status_at}
use Rattle.contracts.proofs.Rings.{walk_on}
use Rattle.contracts.proofs.RisingLemmas.{rising_prefix, but_last}
use Rattle.contracts.proofs.StatusLemmas.{status_cases, pending_there}

pub leads_here : (graph : List (List ℕ)) (v w : ℕ) → v ≡ w → CanReach graph v w
leads_here graph v w same = (0, same)

pub leads_on : (graph : List (List ℕ)) (u v w : ℕ) → CanReach graph u v → CanReach graph v w → CanReach graph u w
leads_on graph u v w first second = (first.0 + second.0, walk_on graph first.0 second.0 u v w first.1 second.1)

pub leads_along : (graph : List (List ℕ)) (u v w : ℕ) → CanReach graph u v → HasEdge graph v w → CanReach graph u w
leads_along graph u v w first edge = leads_on graph u v w first (1, (w, edge, refl))

pub pending_within : (graph : List (List ℕ)) (statuses : List VertexStatus) (pending bounds : List ℕ) (arcs : List Arc) → IsSearch graph statuses pending bounds arcs → All (λ v. v < length graph) pending
pending_within graph statuses pending bounds arcs s = All-from_get_or (λ v. v < length graph) pending 0
    (λ i lt. let long = s.long in let there = pending_there statuses (get_or pending i 0) i (s.held i lt) in omega (arith, long, there))

pub search_same : (graph : List (List ℕ)) (statuses new : List VertexStatus) (pending more bounds limits : List ℕ) (arcs rest : List Arc) → new ≡ statuses → more ≡ pending → limits ≡ bounds → rest ≡ arcs
    → IsSearch graph statuses pending bounds arcs → IsSearch graph new more limits rest
search_same graph statuses new pending more bounds limits arcs rest a b c d s =
    subst (λ x. IsSearch graph x more limits rest) (sym a) (subst (λ x. IsSearch graph statuses x limits rest) (sym b)
    (subst (λ x. IsSearch graph statuses pending x rest) (sym c) (subst (λ x. IsSearch graph statuses pending bounds x) (sym d) s)))

pub found_same : (graph : List (List ℕ)) (statuses new : List VertexStatus) (rings more : List Bool) (order list : List ℕ) → new ≡ statuses → more ≡ rings → list ≡ order → AreFound graph statuses rings order → AreFound graph new more list
found_same graph statuses new rings more order list a b c f =
    subst (λ x. AreFound graph x more list) (sym a) (subst (λ x. AreFound graph statuses x list) (sym b) (subst (λ x. AreFound graph statuses rings x) (sym c) f))

pub room_same : (n : ℕ) (statuses new : List VertexStatus) (pending more order list : List ℕ) → new ≡ statuses → more ≡ pending → list ≡ order
    → count_by is_new statuses + length pending + length order ≡ n → count_by is_new new + length more + length list ≡ n
room_same n statuses new pending more order list a b c room =
    let d = ap (count_by is_new) a in
    let e = ap length b in
    let f = ap length c in
    omega (arith, d, e, f, room)

-- an arc with a settled end is taken off
pub arc_off : (graph : List (List ℕ)) (statuses : List VertexStatus) (pending bounds : List ℕ) (rest : List Arc) (from end : ℕ) → IsFollowed statuses bounds from end
    → IsSearch graph statuses pending bounds (rest ++ arc from end ∷ []) → IsSearch graph statuses pending bounds rest
arc_off graph statuses pending bounds rest from end is s = record {
  long = s.long;
  placed = s.placed;
  held = s.held;
  joined = s.joined;
  followed = λ i w lt edge. ⊎_elim
      (λ left. ⊎_elim
      (λ old. inl old)
      (λ same. inr (subst (λ x. IsFollowed statuses bounds x w) (ap (λ (a : Arc). a.from) same) (subst (λ x. IsFollowed statuses bounds from x) (ap (λ (a : Arc). a.to) same) is)))
      (Contains-push_cases rest (arc from end) (arc i w) left))
      (λ done. inr done)
      (s.followed i w lt edge);
  left = λ a c. s.left a (Contains-append_left rest (arc from end ∷ []) a c);
  arcs_rise = rising_prefix (map (λ (a : Arc). a.from) rest) (from ∷ []) (subst AreRising (map-append (λ (a : Arc). a.from) rest (arc from end ∷ [])) s.arcs_rise);
  bounds_rise = s.bounds_rise;
  within = s.within;
  first = s.first;
}

-- an arc from the last component to a pending vertex joins all components from there on
pub joined_to : (graph : List (List ℕ)) (statuses : List VertexStatus) (pending bounds new : List ℕ) (arcs : List Arc) (from index : ℕ) → from < length pending → index < length pending
    → HasEdge graph (get_or pending from 0) (get_or pending index 0) → ((b : ℕ) → Contains bounds b → b ≤ from) → AreBoundsTo index bounds new
    → IsSearch graph statuses pending bounds arcs → IsSearch graph statuses pending new arcs
joined_to graph statuses pending bounds new arcs from index in_from in_place edge last kept s = record {
  long = s.long;
  placed = s.placed;
  held = s.held;
  joined = λ i j in_i in_j before. ⊎_elim
      (λ more. let round = s.joined i from in_i in_from (λ b c _. last b c) in
      let on = s.joined index j in_place in_j (λ b c le. before b (kept.all b c le) (omega (arith, le, more))) in
      leads_on graph (get_or pending i 0) (get_or pending index 0) (get_or pending j 0)
      (leads_along graph (get_or pending i 0) (get_or pending from 0) (get_or pending index 0) round edge) on)
      (λ less. s.joined i j in_i in_j (λ b c le. before b (kept.all b c (omega (arith, le, less))) le))
      (cases_lt index i);
  followed = λ i w lt at. ⊎_elim
      (λ left. inl left)
      (λ done. ⊎_elim
      (λ complete. inr (inl complete))
      (λ here. inr (inr (here.0, here.1, λ b c le. here.2 b (kept.right b c).0 le)))
      done)
      (s.followed i w lt at);
  left = s.left;
  arcs_rise = s.arcs_rise;
  bounds_rise = kept.rise;
  within = λ b c. s.within b (kept.right b c).0;
  first = λ some. kept.all 0 (s.first some) (omega arith);
}

-- if no component is begun, each vertex that was met is in a complete one
pub all_complete : (graph : List (List ℕ)) (statuses : List VertexStatus) (pending bounds : List ℕ) (arcs : List Arc) → IsSearch graph statuses pending bounds arcs → pending ≡ [] → (v : ℕ) → (status_at statuses v ≡ New → ⊥) → status_at statuses v ≡ Complete
all_complete graph statuses pending bounds arcs s idle v met = ⊎_elim
    (λ new. absurd (met new))
    (λ other. ⊎_elim
    (λ p. let r = s.placed v p.0 p.1 in let lt = r.0 in let size = ap length idle in absurd (omega (arith, lt, size)))
    (λ complete. complete)
    other)
    (status_cases (status_at statuses v))

-- the last arc that is left, which begins in the last component
module _ (graph : List (List ℕ)) (statuses : List VertexStatus) (pending bounds : List ℕ) (arcs : List Arc) (end : ℕ) (s : IsSearch graph statuses pending bounds arcs) (next : IsNextEnd arcs bounds end) where
  edge : (next.1.0 < length pending) × HasEdge graph (get_or pending next.1.0 0) end
  edge = s.left (arc next.1.0 end) (subst (λ l. Contains l (arc next.1.0 end)) (sym next.1.1) (Contains-push next.0 (arc next.1.0 end)))

  pub next_within : InRange graph → end < length graph
  next_within range = All-contains (λ w. w < length graph) (group_at graph (get_or pending next.1.0 0)) end (range (get_or pending next.1.0 0)) edge.1

  pub next_leads : (i : ℕ) → i < length pending → CanReach graph (get_or pending i 0) end
  next_leads i lt = leads_along graph (get_or pending i 0) (get_or pending next.1.0 0) end (s.joined i next.1.0 lt edge.0 (λ b c _. next.1.2 b c)) edge.1

  off : (limits : List ℕ) (less : List Arc) → less ≡ take (length arcs - 1) arcs → IsFollowed statuses limits next.1.0 end → IsSearch graph statuses pending limits arcs → IsSearch graph statuses pending limits less
  off limits less taken is t = subst (IsSearch graph statuses pending limits) (sym (but_last arcs next.0 less (arc next.1.0 end) next.1.1 taken))
      (arc_off graph statuses pending limits next.0 next.1.0 end is (subst (IsSearch graph statuses pending limits) next.1.1 t))

  pub next_off : (less : List Arc) → less ≡ take (length arcs - 1) arcs → status_at statuses end ≡ Complete → IsSearch graph statuses pending bounds less
  next_off less taken is = off bounds less taken (inl is) s

  pub next_joined : (limits : List ℕ) (less : List Arc) (index : ℕ) → less ≡ take (length arcs - 1) arcs → status_at statuses end ≡ Pending index → AreBoundsTo index bounds limits → IsSearch graph statuses pending limits less
  next_joined limits less index taken is kept =
      let at = s.placed end index is in
      off limits less taken (inr (index, is, λ b c _. (kept.right b c).1))
      (joined_to graph statuses pending bounds limits arcs next.1.0 index edge.0 at.0 (subst (HasEdge graph (get_or pending next.1.0 0)) (sym at.1) edge.1) next.1.2 kept s)
