-- Arcs, their ends, and the graph that they form.
use Rattle.std.proofs.Common.{◌≡◌, ℕ, ◌<◌, List, [], ◌∷◌, ◌++◌, length, sym, ap, ◌∙◌, subst, arith, ⊎_elim}
use Rattle.std.specs.Prelude.{Contains, All}
use Rattle.std.proofs.lemmas.List.Elements.{All-weaker, Contains-push_cases, Contains-append_left, Contains-push}
use Rattle.contracts.specs.declared.arcs.Arc.{Arc}
use Rattle.program.specs.declared.contract.Sign.{Sign}
use Rattle.program.specs.declared.contract.Edge.{Edge}
use Rattle.contracts.specs.Arcs.{AllWithin, AreGroups, AreArcs, Joins, IsDrawn, arc}
use Rattle.contracts.proofs.PartLemmas.{all_from}

-- nothing is in an empty list
pub none_in : {A : Type 0} (x : A) → Contains [] x → ⊥
none_in x c = let lt = c.1 in absurd (omega (arith, lt))

-- arcs begin below the count
pub starts_within : (n : ℕ) (arcs : List Arc) → AllWithin n arcs → All (λ a. a.from < n) arcs
starts_within n arcs all = All-weaker (λ a. (a.from < n) × (a.to < n)) (λ a. a.from < n) (λ a both. both.0) arcs all

pub arcs_none : (numbers : List ℕ) (sign : Sign) → AreArcs numbers [] sign []
arcs_none numbers sign = record { right = λ a c. absurd (none_in a c); all = λ e c s. absurd (none_in e c) }

-- an edge of the sign gives one more arc
pub arcs_more : (numbers : List ℕ) (edges : List Edge) (sign : Sign) (arcs : List Arc) (e : Edge) (v w : ℕ) → e.sign ≡ sign → Joins numbers e v w → AreArcs numbers edges sign arcs → AreArcs numbers (edges ++ e ∷ []) sign (arcs ++ arc v w ∷ [])
arcs_more numbers edges sign arcs e v w same joins h = record {
  right = λ a c. ⊎_elim
      (λ old. let r = h.right a old in (r.0, Contains-append_left edges (e ∷ []) r.0 r.1, r.2, r.3))
      (λ new. (e, Contains-push edges e, same, subst (λ x. Joins numbers e x.from x.to) new joins))
      (Contains-push_cases arcs (arc v w) a c);
  all = λ x c s. ⊎_elim
      (λ old. let r = h.all x old s in (r.0, Contains-append_left arcs (arc v w ∷ []) r.0 r.1, r.2))
      (λ new. (arc v w, Contains-push arcs (arc v w), subst (λ y. Joins numbers y v w) new joins))
      (Contains-push_cases edges e x c);
}

-- an edge of the other sign gives none
pub arcs_same : (numbers : List ℕ) (edges : List Edge) (sign : Sign) (arcs : List Arc) (e : Edge) → (e.sign ≡ sign → ⊥) → AreArcs numbers edges sign arcs → AreArcs numbers (edges ++ e ∷ []) sign arcs
arcs_same numbers edges sign arcs e other h = record {
  right = λ a c. let r = h.right a c in (r.0, Contains-append_left edges (e ∷ []) r.0 r.1, r.2, r.3);
  all = λ x c s. ⊎_elim
      (λ old. h.all x old s)
      (λ new. absurd (other (ap (λ (y : Edge). y.sign) new ∙ s)))
      (Contains-push_cases edges e x c);
}

-- arcs of edges stay below the count of the states
pub arcs_within : (numbers : List ℕ) (edges : List Edge) (sign : Sign) (arcs : List Arc) → AreArcs numbers edges sign arcs → AllWithin (length numbers) arcs
arcs_within numbers edges sign arcs h = all_from (λ a. (a.from < length numbers) × (a.to < length numbers)) arcs (λ a c. let j = (h.right a c).3 in (j.v_in, j.w_in))

-- the groups of such arcs are the graph of the edges
pub drawn : (numbers : List ℕ) (edges : List Edge) (sign : Sign) (arcs : List Arc) (graph : List (List ℕ)) → AreArcs numbers edges sign arcs → AreGroups (length numbers) arcs graph → IsDrawn numbers edges (λ e. e.sign ≡ sign) graph
drawn numbers edges sign arcs graph h groups = record {
  long = groups.long;
  right = λ v w edge. h.right (arc v w) (groups.right v w edge);
  all = λ e c s. let r = h.all e c s in (r.0.from, (r.0.to, groups.all r.0.from r.0.to r.1, r.2));
}

-- a graph made from these arcs has exactly the arcs of the edges
pub arcs_made : (numbers : List ℕ) (edges : List Edge) (sign : Sign) (arcs seen : List Arc) (count : ℕ) (graph : List (List ℕ)) → AreArcs numbers edges sign arcs → seen ≡ arcs → count ≡ length numbers
    → (AllWithin count seen → AreGroups count seen graph) → AreGroups (length numbers) arcs graph
arcs_made numbers edges sign arcs seen count graph are same long made =
    subst (λ n. AreGroups n arcs graph) long (subst (λ l. AreGroups count l graph) same
    (made (subst (λ n. AllWithin n seen) (sym long) (subst (AllWithin (length numbers)) (sym same) (arcs_within numbers edges sign arcs are)))))
