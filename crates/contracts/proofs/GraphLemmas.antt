-- Edges of a graph that is drawn from a contract's edges.
use Rattle.std.proofs.Common.{◌≡◌, ℕ, zero, suc, ◌<◌, List, [], ◌∷◌, length, map, get_or, Bool, Some, true, false, not, ◌==◌, sym, ap, ◌∙◌, subst, arith, ⊎_elim}
use Rattle.std.specs.Prelude.{Contains, slice_get}
use Rattle.std.proofs.lemmas.Bool.{true≢false, eq-eqb, eqb-true, cases_Bool}
use Rattle.std.proofs.lemmas.List.{get_or-map, length-map}
use Rattle.std.proofs.lemmas.Option.{slice_get_within, get_or_from_slice_get}
use Rattle.program.specs.declared.contract.State.{State}
use Rattle.program.specs.declared.number.StateId.{StateId}
use Rattle.contracts.specs.Parts.{StateModel, state_model}
use Rattle.program.specs.declared.contract.Edge.{Edge}
use Rattle.contracts.specs.Arcs.{IsDrawn}
use Rattle.contracts.specs.Graphs.{HasEdge, group_at}
use Rattle.contracts.proofs.PartLemmas.{IsOnce, at_place}

-- if a group is not empty, an edge begins at its state
pub leaves : (numbers : List ℕ) (edges : List Edge) (Has : Edge → Type 0) (graph : List (List ℕ)) (v : ℕ) → IsDrawn numbers edges Has graph → (length (group_at graph v) ≡ 0 → ⊥) → (e : Edge) × Contains edges e × (e.from.0 ≡ get_or numbers v 0) × Has e
leaves numbers edges Has graph v h some =
    let lt : 0 < length (group_at graph v) = grind (arith, some) in
    let r = h.right v (get_or (group_at graph v) 0 0) (at_place (group_at graph v) 0 0 lt) in
    (r.0, r.1, sym r.3.from, r.2)

-- if it is empty, no edge does
pub none_leave : (numbers : List ℕ) (edges : List Edge) (Has : Edge → Type 0) (graph : List (List ℕ)) (v : ℕ) → IsOnce numbers → IsDrawn numbers edges Has graph → v < length numbers → length (group_at graph v) ≡ 0 → (e : Edge) → Contains edges e → Has e → e.from.0 ≡ get_or numbers v 0 → ⊥
none_leave numbers edges Has graph v once h lt none e c has from =
    let r = h.all e c has in
    let same : r.0 ≡ v = once.same r.0 v r.1.2.v_in lt (r.1.2.from ∙ from) in
    let edge : HasEdge graph v r.1.0 = subst (λ x. HasEdge graph x r.1.0) same r.1.1 in
    let within = edge.1 in
    absurd (omega (arith, none, within))

abbrev id_of : ℕ → StateId
id_of n = record { 0 = n }

-- the number of the state at an index
pub state_number : (names : List ℕ) (states : List State) (i : ℕ) (s : StateModel) → slice_get (map (state_model names) states) i ≡ Some s → get_or (map (λ (x : State). x.id.0) states) i 0 ≡ s.id.0
state_number names states i s at = walk states i (let lt = slice_get_within (map (state_model names) states) i s at in let size = length-map states (state_model names) in omega (arith, lt, size)) (get_or_from_slice_get (map (state_model names) states) i s s at)
  where
    walk : (states : List State) (i : ℕ) → i < length states → get_or (map (state_model names) states) i s ≡ s → get_or (map (λ (x : State). x.id.0) states) i 0 ≡ s.id.0
    walk [] i lt e = absurd (omega (arith, lt))
    walk (x ∷ xs) zero lt e = ap (λ (y : StateModel). y.id.0) e
    walk (x ∷ xs) (suc i) lt e = walk xs i (omega (arith, lt)) e

-- the same for a state by its number
pub leaves_state : (numbers : List ℕ) (edges : List Edge) (Has : Edge → Type 0) (graph : List (List ℕ)) (v : ℕ) (q : StateId) → IsDrawn numbers edges Has graph → get_or numbers v 0 ≡ q.0 → not (length (group_at graph v) == 0) ≡ true → (e : Edge) × Contains edges e × (e.from ≡ q) × Has e
leaves_state numbers edges Has graph v q h at some =
    let r = leaves numbers edges Has graph v h (λ none. true≢false (sym some ∙ ap not (eq-eqb (length (group_at graph v)) 0 none))) in
    (r.0, r.1, ap id_of (r.2 ∙ at), r.3)

pub none_leave_state : (numbers : List ℕ) (edges : List Edge) (Has : Edge → Type 0) (graph : List (List ℕ)) (v : ℕ) (q : StateId) → IsOnce numbers → IsDrawn numbers edges Has graph → v < length numbers → get_or numbers v 0 ≡ q.0 → not (length (group_at graph v) == 0) ≡ false → (e : Edge) → Contains edges e → Has e → e.from ≡ q → ⊥
none_leave_state numbers edges Has graph v q once h lt at none e c has from =
    none_leave numbers edges Has graph v once h lt
    (⊎_elim (λ zero'. eqb-true (length (group_at graph v)) 0 zero') (λ more. absurd (true≢false (sym (ap not more) ∙ none))) (cases_Bool (length (group_at graph v) == 0)))
    e c has (ap (λ (x : StateId). x.0) from ∙ sym at)

-- a vertex is marked exactly if its group has an element
pub marked_leaves : (graph : List (List ℕ)) (marks : List Bool) (v : ℕ) (mark : Bool) → marks ≡ map (λ group. not (length group == 0)) graph → v < length graph → mark ≡ get_or marks v mark → mark ≡ not (length (group_at graph v) == 0)
marked_leaves graph marks v mark is lt at =
    at ∙ ap (λ l. get_or l v mark) is ∙ get_or-map (λ group. not (length group == 0)) graph v [] mark lt
