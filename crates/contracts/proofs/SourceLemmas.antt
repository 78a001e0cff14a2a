-- Edges by the positions of their states.
use Rattle.std.proofs.Common.{◌≡◌, ◌==◌, ℕ, ◌+◌, ◌<◌, List, [], ◌∷◌, ◌++◌, length, map, get_or, take, sym, refl, ap, ◌∙◌, subst, arith, ⊎_elim}
use Rattle.std.specs.Prelude.{All, Contains, filter}
use Rattle.std.proofs.lemmas.Bool.{eq-eqb, eqb-true, cond-true, cond-false, cases_eq, false_from_ne_true}
use Rattle.std.proofs.lemmas.List.{length-map, get_or-map, map-append, take_all}
use Rattle.std.proofs.lemmas.List.Elements.{All-nil, All-push, All-weaker, filter-append, filter_more}
use Rattle.program.specs.declared.contract.Edge.{Edge}
use Rattle.contracts.specs.declared.arcs.Arc.{Arc}
use Rattle.contracts.specs.Arcs.{EndsListed, arc, begins, ends_from}
use Rattle.contracts.specs.Chains.{AreEnds}
use Rattle.contracts.specs.Graphs.{group_at}
use Rattle.contracts.specs.Leaving.{AreLeaving, AreSources, all_from, edge_at}
use Rattle.contracts.proofs.LeavingLemmas.{none_pass}
use Rattle.contracts.proofs.PartLemmas.{IsOnce, get_again}

pub sources_none : (numbers : List ℕ) (edges : List Edge) → AreSources numbers edges 0 []
sources_none numbers edges = record { within = All-nil (λ (a : Arc). (a.from < length numbers) × (a.to < length edges)); group = λ v lt. refl }

one_more : (edges : List Edge) (n q : ℕ) → n < length edges → all_from (take (n + 1) edges) q ≡ all_from (take n edges) q ++ all_from (edge_at edges n ∷ []) q
one_more edges n q lt = filter_more (λ (e : Edge). e.from.0 == q) edges n (edge_at edges n) lt ∙ ap (λ (e : Edge). all_from (take n edges) q ++ all_from (e ∷ []) q) (get_again edges n _ (edge_at edges n) lt)

-- an edge gives one more arc
pub sources_more : (numbers : List ℕ) (edges : List Edge) (n p : ℕ) (arcs : List Arc) → IsOnce numbers → n < length edges → p < length numbers → get_or numbers p 0 ≡ (edge_at edges n).from.0
    → AreSources numbers edges n arcs → AreSources numbers edges (n + 1) (arcs ++ arc p n ∷ [])
sources_more numbers edges n p arcs once lt within at h = record {
  within = All-push (λ (a : Arc). (a.from < length numbers) × (a.to < length edges)) arcs (arc p n) h.within (within, lt);
  group = λ v less. ap (map (edge_at edges)) (ap (map (λ (a : Arc). a.to)) (filter-append (begins v) arcs (arc p n ∷ [])) ∙ map-append (λ (a : Arc). a.to) (filter (begins v) arcs) (filter (begins v) (arc p n ∷ [])))
      ∙ map-append (edge_at edges) (ends_from arcs v) (ends_from (arc p n ∷ []) v)
      ∙ ap (λ l. l ++ map (edge_at edges) (ends_from (arc p n ∷ []) v)) (h.group v less)
      ∙ ap (λ l. all_from (take n edges) (get_or numbers v 0) ++ l) (last v less)
      ∙ sym (one_more edges n (get_or numbers v 0) lt);
}
  where
    last : (v : ℕ) → v < length numbers → map (edge_at edges) (ends_from (arc p n ∷ []) v) ≡ all_from (edge_at edges n ∷ []) (get_or numbers v 0)
    last v less = ⊎_elim
        (λ is. ap (λ l. map (edge_at edges) (map (λ (a : Arc). a.to) l)) (cond-true (begins v (arc p n)) (arc p n ∷ []) [] (eq-eqb p v is))
        ∙ sym (cond-true ((edge_at edges n).from.0 == get_or numbers v 0) (edge_at edges n ∷ []) []
        (eq-eqb (edge_at edges n).from.0 (get_or numbers v 0) (sym at ∙ ap (λ k. get_or numbers k 0) is))))
        (λ other. ap (λ l. map (edge_at edges) (map (λ (a : Arc). a.to) l)) (cond-false (begins v (arc p n)) (arc p n ∷ []) [] (false_from_ne_true (p == v) (λ e. other (eqb-true p v e))))
        ∙ sym (cond-false ((edge_at edges n).from.0 == get_or numbers v 0) (edge_at edges n ∷ []) [] (false_from_ne_true ((edge_at edges n).from.0 == get_or numbers v 0) (λ e.
        other (once.same p v within less (at ∙ eqb-true (edge_at edges n).from.0 (get_or numbers v 0) e))))))
        (cases_eq p v)

-- such arcs begin below the count of the numbers
pub sources_start : (numbers : List ℕ) (edges : List Edge) (n : ℕ) (arcs : List Arc) → AreSources numbers edges n arcs → All (λ (a : Arc). a.from < length numbers) arcs
sources_start numbers edges n arcs h = All-weaker (λ (a : Arc). (a.from < length numbers) × (a.to < length edges)) (λ (a : Arc). a.from < length numbers) (λ a both. both.0) arcs h.within

-- the groups of such arcs, with each index replaced by its edge
pub leaving_is : (numbers : List ℕ) (edges : List Edge) (arcs : List Arc) (graph : List (List ℕ)) (lists : List (List Edge)) → EndsListed numbers edges → AreSources numbers edges (length edges) arcs → AreEnds arcs (length numbers) graph
    → lists ≡ map (map (edge_at edges)) graph → AreLeaving numbers edges lists
leaving_is numbers edges arcs graph lists ends h are is = (
  ap length is ∙ length-map graph (map (edge_at edges)) ∙ are.long,
  λ v lt. ap (λ l. group_at l v) is ∙ get_or-map (map (edge_at edges)) graph v [] [] (let size = are.long in omega (arith, lt, size))
      ∙ ap (map (edge_at edges)) (are.group v lt) ∙ h.group v lt ∙ ap (λ l. all_from l (get_or numbers v 0)) (take_all (length edges) edges (omega arith)),
  λ q other. none_pass (λ (e : Edge). e.from.0 == q) edges (λ e c here. other (subst (Contains numbers) (eqb-true e.from.0 q here) (ends e c).0)),
)
