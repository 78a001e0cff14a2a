-- Arcs linked from the last to the first, and groups made by following the links.
use Rattle.std.proofs.Common.{◌≡◌, ◌==◌, ℕ, zero, suc, ◌+◌, ◌<◌, ◌≤◌, List, [], ◌∷◌, ◌++◌, length, map, get_or, take, drop, sym, refl, ap, ◌∙◌, subst, arith, ⊎_elim}
use Rattle.std.specs.Prelude.{Contains, All, filter}
use Rattle.std.proofs.Math.ListN.{set, replicate, length-set, length-append}
use Rattle.std.proofs.lemmas.Bool.{eq-eqb, eqb-true, cond-true, cond-false, cases_eq, cases_lt, false_from_ne_true}
use Rattle.std.proofs.lemmas.List.{get_or-set_same, get_or-set_other, get_or-replicate, get_or_past, length-replicate, drop_more, drop_all, take_all, take_more_set}
use Rattle.std.proofs.lemmas.List.Elements.{All-weaker, All-nil, All-map, All-filter, All-contains, Contains-append_cases}
use Rattle.contracts.specs.declared.arcs.Arc.{Arc}
use Rattle.contracts.specs.Arcs.{AllWithin, AreGroups, arc, begins, ends_from}
use Rattle.contracts.specs.Chains.{AreChained, AreEnds, IsFirstArc, start_at}
use Rattle.contracts.specs.Graphs.{group_at}
use Rattle.contracts.specs.Spans.{AreWithin, cut, start_of}
use Rattle.contracts.proofs.ArcLemmas.{none_in}
use Rattle.contracts.proofs.PartLemmas.{contains_map}
use Rattle.contracts.proofs.ListLemmas.{kept_in, in_kept, made_from}
use Rattle.contracts.proofs.SpanLemmas.{closed_more, cut_more, within_more}

none : Arc
none = arc 0 0

-- an arc that begins at the vertex is the first from its own index on
first_here : (arcs : List Arc) (v k : ℕ) → start_at arcs k ≡ v → IsFirstArc arcs v k k
first_here arcs v k is = record { behind = omega arith; none = refl; here = λ _. is }

-- an arc that begins elsewhere changes nothing
first_before : (arcs : List Arc) (v k j : ℕ) → k < length arcs → (start_at arcs k ≡ v → ⊥) → IsFirstArc arcs v (k + 1) j → IsFirstArc arcs v k j
first_before arcs v k j lt other h = record {
  behind = let b = h.behind in omega (arith, b);
  none = ap (filter (begins v)) (drop_more arcs k (arc 0 0) lt)
      ∙ cond-false (begins v (get_or arcs k (arc 0 0))) (get_or arcs k (arc 0 0) ∷ filter (begins v) (drop (k + 1) arcs)) (filter (begins v) (drop (k + 1) arcs))
      (false_from_ne_true (start_at arcs k == v) (λ e. other (eqb-true (start_at arcs k) v e)))
      ∙ h.none;
  here = h.here;
}

-- at the end nothing is linked
pub chained_end : (arcs : List Arc) (count : ℕ) → AreChained arcs (length arcs) (replicate count (length arcs)) (replicate (length arcs) (length arcs))
chained_end arcs count = record {
  long = length-replicate (length arcs) (length arcs);
  first = λ v lt. let long = length-replicate count (length arcs) in
      let is = get_or-replicate count v (length arcs) 0 (omega (arith, lt, long)) in
      record {
        behind = omega (arith, is);
        none = ap (λ j. filter (begins v) (drop j arcs)) (sym is);
        here = λ less. absurd (omega (arith, is, less));
      };
  next = λ i from lt. absurd (omega (arith, from, lt));
}

-- one arc more: it is linked to the first one of its vertex, and becomes the first itself
pub chained_more : (arcs : List Arc) (k : ℕ) (firsts nexts : List ℕ) → k < length arcs → start_at arcs k < length firsts → AreChained arcs (k + 1) firsts nexts
    → AreChained arcs k (set firsts (start_at arcs k) k) (set nexts k (get_or firsts (start_at arcs k) 0))
chained_more arcs k firsts nexts lt within h = record {
  long = length-set nexts k _ ∙ h.long;
  first = λ v less. ⊎_elim
      (λ same. subst (IsFirstArc arcs v k) (sym (ap (λ u. get_or (set firsts (start_at arcs k) k) u 0) same ∙ get_or-set_same firsts (start_at arcs k) k 0 within)) (first_here arcs v k (sym same)))
      (λ other. subst (IsFirstArc arcs v k) (sym (get_or-set_other firsts (start_at arcs k) v k 0 other))
      (first_before arcs v k (get_or firsts v 0) lt (λ e. other (sym e)) (h.first v (let size = length-set firsts (start_at arcs k) k in omega (arith, less, size)))))
      (cases_eq v (start_at arcs k));
  next = λ i from less. ⊎_elim
      (λ same. subst (λ j. IsFirstArc arcs (start_at arcs i) (i + 1) (get_or (set nexts k (get_or firsts (start_at arcs k) 0)) j 0)) (sym same)
      (subst (IsFirstArc arcs (start_at arcs i) (i + 1)) (sym (get_or-set_same nexts k (get_or firsts (start_at arcs k) 0) 0 (let size = h.long in omega (arith, lt, size))))
      (subst (λ j. IsFirstArc arcs (start_at arcs j) (j + 1) (get_or firsts (start_at arcs k) 0)) (sym same) (h.first (start_at arcs k) within))))
      (λ other. subst (IsFirstArc arcs (start_at arcs i) (i + 1)) (sym (get_or-set_other nexts k i (get_or firsts (start_at arcs k) 0) 0 other))
      (h.next i (grind (arith, from, other)) less))
      (cases_eq i k);
}

-- the ends from an arc of a vertex on: its own, then those from its link on
pub ends_more : (arcs : List Arc) (v k j : ℕ) → k < length arcs → start_at arcs k ≡ v → IsFirstArc arcs (start_at arcs k) (k + 1) j → ends_from (drop k arcs) v ≡ (get_or arcs k (arc 0 0)).to ∷ ends_from (drop j arcs) v
ends_more arcs v k j lt is h =
    let a = get_or arcs k (arc 0 0) in
    ap (map (λ (x : Arc). x.to)) (ap (filter (begins v)) (drop_more arcs k (arc 0 0) lt)
    ∙ cond-true (begins v a) (a ∷ filter (begins v) (drop (k + 1) arcs)) (filter (begins v) (drop (k + 1) arcs)) (eq-eqb a.from v is))
    ∙ ap (λ l. a.to ∷ map (λ (x : Arc). x.to) l) (subst (λ u. filter (begins u) (drop (k + 1) arcs) ≡ filter (begins u) (drop j arcs)) is h.none)

pub ends_all : (arcs : List Arc) (v k : ℕ) → length arcs ≤ k → ends_from (drop k arcs) v ≡ []
ends_all arcs v k past = ap (λ l. ends_from l v) (drop_all k arcs past)

pub ends_first : (arcs : List Arc) (v j : ℕ) → IsFirstArc arcs v 0 j → ends_from (drop j arcs) v ≡ ends_from arcs v
ends_first arcs v j h = ap (map (λ (x : Arc). x.to)) (sym h.none)

-- the links of the arcs alone
pub linked : (arcs : List Arc) (firsts nexts : List ℕ) → AreChained arcs 0 firsts nexts → AreChained arcs 0 [] nexts
linked arcs firsts nexts h = record { long = h.long; first = λ v lt. absurd (omega (arith, lt)); next = h.next }

-- the groups of the first n vertices, which are all of the items
pub record AreFilled (arcs : List Arc) (n : ℕ) (items ends : List ℕ) : Type 0 where
  pub within : AreWithin items ends
  pub closed : start_of 0 ends (length ends) ≡ length items
  pub made : AreEnds arcs n (cut items ends)
  pub from : (w : ℕ) → Contains items w → (a : Arc) × Contains arcs a × (a.to ≡ w)

pub filled_none : (arcs : List Arc) → AreFilled arcs 0 [] []
filled_none arcs = record {
  within = λ v lt. absurd (omega (arith, lt));
  closed = refl;
  made = record { long = refl; group = λ v lt. absurd (omega (arith, lt)) };
  from = λ w c. absurd (none_in w c);
}

pub filled_more : (arcs : List Arc) (n : ℕ) (items ends : List ℕ) (end : ℕ) → end ≡ length (items ++ ends_from arcs n) → AreFilled arcs n items ends
    → AreFilled arcs (n + 1) (items ++ ends_from arcs n) (ends ++ end ∷ [])
filled_more arcs n items ends end is h = record {
  within = within_more items new ends end is h.closed h.within;
  closed = closed_more ends end ∙ is;
  made = record {
    long = ap length rows_are ∙ length-append (cut items ends) (new ∷ []) ∙ ap (λ k. k + 1) h.made.long;
    group = λ v lt. ap (λ l. group_at l v) rows_are ∙ ⊎_elim
        (λ same. ap (group_at (cut items ends ++ new ∷ [])) (same ∙ sym h.made.long) ∙ last (cut items ends) new ∙ ap (ends_from arcs) (sym same))
        (λ other. let less : v < n = grind (arith, lt, other) in before (cut items ends) new v (let size = h.made.long in omega (arith, less, size)) ∙ h.made.group v less)
        (cases_eq v n);
  };
  from = λ w c. ⊎_elim
      (λ old. h.from w old)
      (λ late. let r = made_from (λ (a : Arc). a.to) (filter (begins n) arcs) w late in (r.0, (kept_in (begins n) arcs r.0 r.1).0, r.2))
      (Contains-append_cases items new w c);
}
  where
    new : List ℕ
    new = ends_from arcs n

    rows_are : cut (items ++ new) (ends ++ end ∷ []) ≡ cut items ends ++ new ∷ []
    rows_are = cut_more items new ends end is h.closed h.within

    last : (lists : List (List ℕ)) (l : List ℕ) → group_at (lists ++ l ∷ []) (length lists) ≡ l
    last [] l = refl
    last (x ∷ lists) l = last lists l

    before : (lists : List (List ℕ)) (l : List ℕ) (v : ℕ) → v < length lists → group_at (lists ++ l ∷ []) v ≡ group_at lists v
    before [] l v lt = absurd (omega (arith, lt))
    before (x ∷ lists) l zero lt = refl
    before (x ∷ lists) l (suc v) lt = before lists l v (omega (arith, lt))

-- one group more, whose end is written in its place
pub filled_put : (arcs : List Arc) (n : ℕ) (items all ends : List ℕ) (end : ℕ) → n < length ends → all ≡ items ++ ends_from arcs n → end ≡ length all → AreFilled arcs n items (take n ends) → AreFilled arcs (n + 1) all (take (n + 1) (set ends n end))
filled_put arcs n items all ends end lt is to h =
    subst (AreFilled arcs (n + 1) all) (sym (take_more_set ends n end lt))
    (subst (λ l. AreFilled arcs (n + 1) l (take n ends ++ end ∷ [])) (sym is) (filled_more arcs n items (take n ends) end (to ∙ ap length is) h))

pub filled_all : (arcs : List Arc) (n : ℕ) (items ends : List ℕ) → length ends ≡ n → AreFilled arcs n items (take n ends) → AreFilled arcs n items ends
filled_all arcs n items ends long h = subst (AreFilled arcs n items) (take_all n ends (omega (arith, long))) h

arc_is : (a : Arc) (v w : ℕ) → a.from ≡ v → a.to ≡ w → a ≡ arc v w
arc_is a v w from to = ap (λ x. arc x a.to) from ∙ ap (arc v) to

-- such groups have exactly the arcs
pub rows_are : (arcs : List Arc) (n : ℕ) (graph : List (List ℕ)) → AllWithin n arcs → AreEnds arcs n graph → AreGroups n arcs graph
rows_are arcs n graph range h = record {
  long = h.long;
  range = λ v. ⊎_elim
      (λ within. subst (All (λ w. w < length graph)) (sym (h.group v within))
      (All-map (λ w. w < length graph) (λ (a : Arc). a.to) (filter (begins v) arcs)
      (All-filter (begins v) (λ (a : Arc). a.to < length graph) arcs
      (All-weaker (λ (a : Arc). (a.from < n) × (a.to < n)) (λ (a : Arc). a.to < length graph) (λ a both. let b = both.1 in let size = h.long in omega (arith, b, size)) arcs range))))
      (λ past. subst (All (λ w. w < length graph)) (sym (get_or_past graph v [] (let size = h.long in omega (arith, past, size)))) (All-nil (λ w. w < length graph)))
      (cases_lt v n);
  right = λ v w e. ⊎_elim
      (λ within. let r = made_from (λ (a : Arc). a.to) (filter (begins v) arcs) w (subst (λ l. Contains l w) (h.group v within) e) in
      let kept = kept_in (begins v) arcs r.0 r.1 in
      subst (Contains arcs) (arc_is r.0 v w (eqb-true r.0.from v kept.1) r.2) kept.0)
      (λ past. absurd (none_in w (subst (λ l. Contains l w) (get_or_past graph v [] (let size = h.long in omega (arith, past, size))) e)))
      (cases_lt v n);
  all = λ v w c.
      let fits = All-contains (λ (a : Arc). (a.from < n) × (a.to < n)) arcs (arc v w) range c in
      subst (λ l. Contains l w) (sym (h.group v fits.0)) (contains_map (λ (a : Arc). a.to) (filter (begins v) arcs) (arc v w) (in_kept (begins v) arcs (arc v w) c (eq-eqb v v refl)));
}
