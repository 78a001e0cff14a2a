-- What a search for components keeps as it completes the last component.
use Rattle.std.proofs.Common.{◌≡◌, ℕ, zero, suc, ◌+◌, ◌-◌, ◌<◌, ◌≤◌, List, [], ◌∷◌, ◌++◌, length, take, drop, get_or, sym, refl, ap, ◌∙◌, subst, arith, inl, inr, ⊎_elim, Bool, true}
use Rattle.std.specs.Prelude.{◌⊎◌, Contains, count_by}
use Rattle.std.proofs.lemmas.List.{drop_all, drop_more, get_or-append_right, get_or-drop, get_or-take, get_or_append_left, get_or_default, length-append, length-drop, length-take-le, take-append-le}
use Rattle.std.proofs.lemmas.List.Elements.{All-append, All-drop, Contains-append_left, Contains-append_right, Contains-push, Contains-push_cases}
use Rattle.std.proofs.lemmas.Bool.{cases_eq, cases_lt}
use Rattle.contracts.specs.declared.arcs.Arc.{Arc}
use Rattle.contracts.specs.declared.components.VertexStatus.{VertexStatus}
use Rattle.contracts.specs.declared.components.VertexStatus.TheVariants.{New, Pending, Complete}
use Rattle.contracts.specs.Arcs.{arc}
use Rattle.contracts.specs.Graphs.{HasEdge, OnRing, Walk}
use Rattle.contracts.specs.Rings.{TellsRings}
use Rattle.contracts.specs.Searches.{AreFound, IsSearch, CanReach, TellsComponent, is_new, status_at, set_at_each}
use Rattle.contracts.proofs.StatusLemmas.{pending_same, pending_there, status_cases, written_new}
use Rattle.contracts.proofs.ComponentLemmas.{pending_within}
use Rattle.contracts.proofs.RisingLemmas.{rising_last, rising_prefix}
use Rattle.contracts.proofs.PartLemmas.{at_place}
use Rattle.contracts.proofs.Rings.{walk_on}
use Rattle.contracts.proofs.WrittenLemmas.{written_length, written_at, written_other}

pub contains_take : (xs ys : List ℕ) (x i : ℕ) → length xs ≤ i → i ≤ length (xs ++ ys) → Contains xs x → Contains (take i (xs ++ ys)) x
contains_take xs ys x i le in_i (k, lt, e) =
    let size = length-take-le i (xs ++ ys) in_i in
    (k, omega (arith, lt, le, size), get_or-take i (xs ++ ys) k x (omega (arith, lt, le)) ∙ get_or_append_left xs ys x k lt ∙ e)

-- a walk to another vertex and one back make a ring
ring_of : (graph : List (List ℕ)) (v w : ℕ) → (v ≡ w → ⊥) → CanReach graph v w → CanReach graph w v → OnRing graph v
ring_of graph v w differ (zero, walk) back = absurd (differ walk)
ring_of graph v w differ (suc n, walk) back =
    (n + back.0, subst (λ k. Walk graph v v k) (let e : suc n + back.0 ≡ suc (n + back.0) = omega arith in e) (walk_on graph (suc n) back.0 v w v walk back.1))

-- the last component begins at this index, and no arc from there on is left
module _ (graph : List (List ℕ)) (statuses : List VertexStatus) (pending rest : List ℕ) (arcs : List Arc) (rings : List Bool) (order : List ℕ) (index : ℕ) (on_ring : Bool)
    (none : (a : Arc) → Contains arcs a → a.from < index)
    (told : TellsComponent graph (drop index pending) on_ring)
    (s : IsSearch graph statuses pending (rest ++ index ∷ []) arcs) (f : AreFound graph statuses rings order) where
  within : index ≤ length pending
  within = s.within index (Contains-push rest index)

  size : length (take index pending) ≡ index
  size = length-take-le index pending within

  before : (i : ℕ) → i < index → get_or (take index pending) i 0 ≡ get_or pending i 0
  before i lt = get_or-take index pending i 0 lt

  -- the vertices of the component
  part_in : (i : ℕ) → index ≤ i → i < length pending → Contains (drop index pending) (get_or pending i 0)
  part_in i le lt =
      let long = length-drop index pending in
      let at = get_or-drop index pending (i - index) 0 in
      let same : index + (i - index) ≡ i = omega (arith, le) in
      let in_drop : i - index < length (drop index pending) = omega (arith, le, lt, long) in
      subst (Contains (drop index pending)) (at ∙ ap (λ k. get_or pending k 0) same) (at_place (drop index pending) (i - index) 0 in_drop)

  in_part : (v : ℕ) → Contains (drop index pending) v → (i : ℕ) × (index ≤ i) × (i < length pending) × (get_or pending i 0 ≡ v)
  in_part v (k, lt, e) =
      let long = length-drop index pending in
      (index + k, omega arith, omega (arith, lt, long), sym (get_or-drop index pending k 0) ∙ get_or_default (drop index pending) k 0 v lt ∙ e)

  abbrev more : List VertexStatus
  more = set_at_each statuses (drop index pending) Complete

  now_complete : (i : ℕ) → index ≤ i → i < length pending → status_at more (get_or pending i 0) ≡ Complete
  now_complete i le lt = written_at statuses (drop index pending) Complete New (get_or pending i 0) (pending_there statuses (get_or pending i 0) i (s.held i lt)) (part_in i le lt)

  still : (v : ℕ) (x : VertexStatus) → status_at statuses v ≡ x → ((p : ℕ) → x ≡ Pending p → p < index) → status_at more v ≡ x
  still v x is early = written_other statuses (drop index pending) Complete New v
      (λ c. let r = in_part v c in
      let le = r.1 in
      let lt = early r.0 (sym is ∙ ap (status_at statuses) (sym r.3) ∙ s.held r.0 r.2) in
      absurd (omega (arith, le, lt)))
      ∙ is

  back_pending : (v p : ℕ) → status_at more v ≡ Pending p → (status_at statuses v ≡ Pending p) × (p < index)
  back_pending v p is = ⊎_elim
      (λ new. let e = still v New new (λ q wrong. cc) in absurd (cc))
      (λ met. ⊎_elim
      (λ q. ⊎_elim
      (λ less. let e = still v (Pending q.0) q.1 (λ k same. let at = pending_same q.0 k same in omega (arith, at, less)) in
      let same = pending_same q.0 p (sym e ∙ is) in
      (q.1 ∙ ap Pending same, omega (arith, same, less)))
      (λ more_q. let r = s.placed v q.0 q.1 in
      let e = now_complete q.0 more_q r.0 in
      let e2 = ap (status_at more) r.1 in absurd (cc))
      (cases_lt q.0 index))
      (λ complete. let e = still v Complete complete (λ q wrong. cc) in absurd (cc))
      met)
      (status_cases (status_at statuses v))

  back_complete : (v : ℕ) → status_at more v ≡ Complete → (status_at statuses v ≡ Complete) ⊎ ((p : ℕ) × (index ≤ p) × (p < length pending) × (get_or pending p 0 ≡ v))
  back_complete v is = ⊎_elim
      (λ new. let e = still v New new (λ q wrong. cc) in absurd (cc))
      (λ met. ⊎_elim
      (λ q. ⊎_elim
      (λ less. let e = still v (Pending q.0) q.1 (λ k same. let at = pending_same q.0 k same in omega (arith, at, less)) in absurd (cc))
      (λ more_q. let r = s.placed v q.0 q.1 in inr (q.0, more_q, r.0, r.1))
      (cases_lt q.0 index))
      (λ complete. inl complete)
      met)
      (status_cases (status_at statuses v))

  complete_still : (v : ℕ) → status_at statuses v ≡ Complete → status_at more v ≡ Complete
  complete_still v is = still v Complete is (λ p wrong. cc)

  -- where the arcs of the component lead
  successor : (p w : ℕ) → index ≤ p → p < length pending → HasEdge graph (get_or pending p 0) w
      → (status_at statuses w ≡ Complete) ⊎ ((j : ℕ) × (index ≤ j) × (j < length pending) × (get_or pending j 0 ≡ w))
  successor p w le lt edge = ⊎_elim
      (λ left. let less = none (arc p w) left in absurd (omega (arith, less, le)))
      (λ done. ⊎_elim
      (λ complete. inl complete)
      (λ here. let r = s.placed w here.0 here.1 in inr (here.0, here.2 index (Contains-push rest index) le, r.0, r.1))
      done)
      (s.followed p w lt edge)

  -- each vertex of the component reaches each
  together : (i j : ℕ) → i < length pending → index ≤ j → j < length pending → CanReach graph (get_or pending i 0) (get_or pending j 0)
  together i j in_i le in_j = s.joined i j in_i in_j (λ b c _. let last = rising_last rest index b s.bounds_rise c in omega (arith, last, le))

  pub completed_search : IsSearch graph more (take index pending) rest arcs
  completed_search = record {
    long = written_length statuses (drop index pending) Complete ∙ s.long;
    placed = λ v p is. let r = back_pending v p is in
        let lt = r.1 in
        (omega (arith, lt, size), before p lt ∙ (s.placed v p r.0).1);
    held = λ p lt. let less : p < index = omega (arith, lt, size) in
        ap (status_at more) (before p less) ∙ still (get_or pending p 0) (Pending p) (s.held p (omega (arith, less, within))) (λ q same. let e = pending_same p q same in omega (arith, e, less));
    joined = λ i j in_i in_j h. let less_i : i < index = omega (arith, in_i, size) in
        let less_j : j < index = omega (arith, in_j, size) in
        subst (λ x. CanReach graph x (get_or (take index pending) j 0)) (sym (before i less_i)) (subst (CanReach graph (get_or pending i 0)) (sym (before j less_j))
        (s.joined i j (omega (arith, less_i, within)) (omega (arith, less_j, within))
        (λ b c le. ⊎_elim (λ old. h b old le) (λ same. absurd (omega (arith, same, le, less_i))) (Contains-push_cases rest index b c))));
    followed = λ i w in_i edge. let less : i < index = omega (arith, in_i, size) in ⊎_elim
        (λ left. inl left)
        (λ done. inr (⊎_elim
        (λ complete. inl (complete_still w complete))
        (λ here. ⊎_elim
        (λ lower. inr (
          here.0,
          still w (Pending here.0) here.1 (λ q same. let e = pending_same here.0 q same in omega (arith, e, lower)),
          λ b c le. here.2 b (Contains-append_left rest (index ∷ []) b c) le,
        ))
        (λ upper. let r = s.placed w here.0 here.1 in inl (subst (λ x. status_at more x ≡ Complete) r.1 (now_complete here.0 upper r.0)))
        (cases_lt here.0 index))
        done))
        (s.followed i w (omega (arith, less, within)) (subst (λ x. HasEdge graph x w) (before i less) edge));
    left = λ a c. let less = none a c in (omega (arith, less, size), subst (λ x. HasEdge graph x a.to) (sym (before a.from less)) (s.left a c).1);
    arcs_rise = s.arcs_rise;
    bounds_rise = rising_prefix rest (index ∷ []) s.bounds_rise;
    within = λ b c. let le = rising_last rest index b s.bounds_rise (Contains-append_left rest (index ∷ []) b c) in omega (arith, le, size);
    first = λ some. ⊎_elim (λ old. old) (λ same. absurd (omega (arith, same, some, size))) (Contains-push_cases rest index 0 (s.first (omega (arith, some, size, within))));
  }

  closed_walk : (n u v : ℕ) → status_at statuses u ≡ Complete → Walk graph u v n → status_at statuses v ≡ Complete
  closed_walk zero u v is walk = sym (ap (status_at statuses) walk) ∙ is
  closed_walk (suc n) u v is walk = closed_walk n walk.0 v (f.closed u walk.0 is walk.1) walk.2

  -- different indices of the component have different vertices
  differ : (i j : ℕ) → i < length pending → j < length pending → (i ≡ j → ⊥) → get_or pending i 0 ≡ get_or pending j 0 → ⊥
  differ i j in_i in_j other same = other (pending_same i j (sym (s.held i in_i) ∙ ap (status_at statuses) same ∙ s.held j in_j))

  tells_on : (p : ℕ) → index ≤ p → p < length pending → TellsRings graph (get_or pending p 0) on_ring
  tells_on p le lt = ⊎_elim
      (λ many. record {
        yes = λ _. ⊎_elim
            (λ first. round (index + 1) (λ same. absurd (omega (arith, same, first))) (omega arith) (omega (arith, many, long)))
            (λ later. round index (λ same. later same) (omega arith) (omega (arith, le, lt)))
            (cases_eq p index);
        no = λ _. told.several many;
      })
      (λ few. let first : p ≡ index = omega (arith, few, long, le, lt) in
      let part = alone first few in
      record {
        yes = λ is. (0, (get_or pending p 0, told.yes (get_or pending p 0) part is, refl));
        no = λ ring. told.no (get_or pending p 0) part (⊎_elim
            (λ complete. let back = closed_walk ring.0 ring.1.0 (get_or pending p 0) complete ring.1.2 in
            let here = s.held p lt in absurd (cc))
            (λ j. let same : j.0 ≡ p = let a = j.1 in let b = j.2 in omega (arith, a, b, few, long, first) in
            subst (HasEdge graph (get_or pending p 0)) (sym j.3 ∙ ap (λ k. get_or pending k 0) same) ring.1.1)
            (successor p ring.1.0 le lt ring.1.1));
      })
      (cases_lt 1 (length (drop index pending)))
    where
      long : length (drop index pending) ≡ length pending - index
      long = length-drop index pending

      round : (q : ℕ) → (p ≡ q → ⊥) → index ≤ q → q < length pending → OnRing graph (get_or pending p 0)
      round q other le_q in_q = ring_of graph (get_or pending p 0) (get_or pending q 0) (differ p q lt in_q other) (together p q lt le_q in_q) (together q p in_q le lt)

      alone : p ≡ index → length (drop index pending) ≤ 1 → drop index pending ≡ get_or pending p 0 ∷ []
      alone first few =
          drop_more pending index 0 (omega (arith, first, lt))
          ∙ ap (λ l. get_or pending index 0 ∷ l) (drop_all (index + 1) pending (omega (arith, few, long)))
          ∙ ap (λ k. get_or pending k 0 ∷ []) (sym first)

  -- the vertices of the component come after their successors, except those that lead back
  listed_after : (i w : ℕ) → i < length (order ++ drop index pending) → HasEdge graph (get_or (order ++ drop index pending) i 0) w
      → Contains (take i (order ++ drop index pending)) w ⊎ CanReach graph w (get_or (order ++ drop index pending) i 0)
  listed_after i w in_i edge = ⊎_elim
      (λ old. let at = get_or_append_left order (drop index pending) 0 i old in
      let same : take i (order ++ drop index pending) ≡ take i order = take-append-le i order (drop index pending) (omega (arith, old)) in
      ⊎_elim
      (λ earlier. inl (subst (λ l. Contains l w) (sym same) earlier))
      (λ leads. inr (subst (CanReach graph w) (sym at) leads))
      (f.after i w old (subst (λ x. HasEdge graph x w) at edge)))
      (λ new. let all = length-append order (drop index pending) in
      let long = length-drop index pending in
      let in_p : index + (i - length order) < length pending = omega (arith, in_i, new, all, long) in
      let at = get_or-append_right order (drop index pending) (length order) i 0 refl new ∙ get_or-drop index pending (i - length order) 0 in
      ⊎_elim
      (λ complete. inl (contains_take order (drop index pending) w i new (omega (arith, in_i)) (f.listed w complete)))
      (λ j. inr (subst (λ x. CanReach graph x (get_or (order ++ drop index pending) i 0)) j.3 (subst (CanReach graph (get_or pending j.0 0)) (sym at)
      (together j.0 (index + (i - length order)) j.2 (omega arith) in_p))))
      (successor (index + (i - length order)) w (omega arith) in_p (subst (λ x. HasEdge graph x w) at edge)))
      (cases_lt i (length order))

  pub completed_found : AreFound graph more (set_at_each rings (drop index pending) on_ring) (order ++ drop index pending)
  completed_found = record {
    long = written_length rings (drop index pending) on_ring ∙ f.long;
    closed = λ v w is edge. ⊎_elim
        (λ old. complete_still w (f.closed v w old edge))
        (λ p. ⊎_elim
        (λ complete. complete_still w complete)
        (λ j. subst (λ x. status_at more x ≡ Complete) j.3 (now_complete j.0 j.1 j.2))
        (successor p.0 w p.1 p.2 (subst (λ x. HasEdge graph x w) (sym p.3) edge)))
        (back_complete v is);
    tells = λ v is. ⊎_elim
        (λ old. subst (TellsRings graph v) (sym (written_other rings (drop index pending) on_ring true v
        (λ c. let r = in_part v c in let here = s.held r.0 r.2 in let same = ap (status_at statuses) r.3 in absurd (cc)))) (f.tells v old))
        (λ p. subst (TellsRings graph v) (sym (written_at rings (drop index pending) on_ring true v (subst (λ x. x < length rings) p.3 (let a = s.long in let b = f.long in let lt = pending_there statuses (get_or pending p.0 0) p.0 (s.held p.0 p.2) in omega (arith, lt, a, b))) (subst (Contains (drop index pending)) p.3 (part_in p.0 p.1 p.2))))
        (subst (λ x. TellsRings graph x on_ring) p.3 (tells_on p.0 p.1 p.2)))
        (back_complete v is);
    listed = λ v is. ⊎_elim
        (λ old. Contains-append_left order (drop index pending) v (f.listed v old))
        (λ p. Contains-append_right order (drop index pending) v (subst (Contains (drop index pending)) p.3 (part_in p.0 p.1 p.2)))
        (back_complete v is);
    within = All-append (λ v. v < length graph) order (drop index pending) f.within
        (All-drop (λ v. v < length graph) index pending (pending_within graph statuses pending (rest ++ index ∷ []) arcs s));
    after = listed_after;
  }

  -- the number of new vertices is the same
  pub completed_new : count_by is_new more ≡ count_by is_new statuses
  completed_new = written_new statuses (drop index pending) Complete refl
      (λ v c. let r = in_part v c in ap is_new (ap (status_at statuses) (sym r.3) ∙ s.held r.0 r.2))

  pub completed_room : (n : ℕ) → count_by is_new statuses + length pending + length order ≡ n → count_by is_new more + length (take index pending) + length (order ++ drop index pending) ≡ n
  completed_room n room =
      let same = completed_new in
      let a = length-append order (drop index pending) in
      let b = length-drop index pending in
      omega (arith, room, same, size, within, a, b)

  pub completed_met : (v : ℕ) → (status_at statuses v ≡ New → ⊥) → status_at more v ≡ New → ⊥
  completed_met v met is = ⊎_elim
      (λ new. met new)
      (λ other. ⊎_elim
      (λ q. ⊎_elim
      (λ less. let e = still v (Pending q.0) q.1 (λ k same. let at = pending_same q.0 k same in omega (arith, at, less)) in absurd (cc))
      (λ upper. let r = s.placed v q.0 q.1 in
      let e = now_complete q.0 upper r.0 in
      let e2 = ap (status_at more) r.1 in absurd (cc))
      (cases_lt q.0 index))
      (λ complete. let e = complete_still v complete in absurd (cc))
      other)
      (status_cases (status_at statuses v))
