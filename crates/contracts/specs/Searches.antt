-- A search for strongly connected components, and what it keeps.
use Rattle.std.specs.Prelude.{◌≡◌, ℕ, ◌+◌, ◌*◌, ◌<◌, ◌≤◌, List, [], ◌∷◌, ◌++◌, length, map, take, All, Contains}
use Rattle.std.specs.Prelude.{Bool, true, false, ◌⊎◌, get_or, count_by, slice_set}
use Rattle.contracts.specs.declared.arcs.Arc.{Arc}
use Rattle.contracts.specs.declared.groups.Groups.{Groups}
use Rattle.contracts.specs.declared.components.Search.{Search}
use Rattle.contracts.specs.declared.components.VertexStatus.{VertexStatus}
use Rattle.contracts.specs.declared.components.VertexStatus.TheVariants.{New, Pending, Complete}
use Rattle.contracts.specs.Arcs.{arc}
use Rattle.contracts.specs.Graphs.{HasEdge, Walk}
use Rattle.contracts.specs.Rings.{TellsRings}

abbrev pub status_at : List VertexStatus → ℕ → VertexStatus
status_at statuses v = get_or statuses v New

abbrev pub is_new : VertexStatus → Bool
is_new New = true
is_new (Pending index) = false
is_new Complete = false

-- the numbers never fall along the list
abbrev pub AreRising : List ℕ → Type 0
AreRising xs = (j k : ℕ) → j ≤ k → k < length xs → get_or xs j 0 ≤ get_or xs k 0

abbrev pub CanReach : List (List ℕ) → ℕ → ℕ → Type 0
CanReach graph v w = (n : ℕ) × Walk graph v w n

-- the second index is in the component of the first, or in a later one
abbrev pub NotBefore : List ℕ → ℕ → ℕ → Type 0
NotBefore bounds i j = (b : ℕ) → Contains bounds b → b ≤ i → b ≤ j

-- an arc from the index to the vertex was followed: the vertex is in a complete component, or not before the component of the index
abbrev pub IsFollowed : List VertexStatus → List ℕ → ℕ → ℕ → Type 0
IsFollowed statuses bounds i w = (status_at statuses w ≡ Complete)
    ⊎ ((j : ℕ) × (status_at statuses w ≡ Pending j) × NotBefore bounds i j)

-- Each pending vertex is at its index and leads to all that are not before its component. Its arcs were followed, except those that
-- are left.
pub record IsSearch (graph : List (List ℕ)) (statuses : List VertexStatus) (pending bounds : List ℕ) (arcs : List Arc) : Type 0 where
  pub long : length statuses ≡ length graph
  pub placed : (v p : ℕ) → status_at statuses v ≡ Pending p → (p < length pending) × (get_or pending p 0 ≡ v)
  pub held : (p : ℕ) → p < length pending → status_at statuses (get_or pending p 0) ≡ Pending p
  pub joined : (i j : ℕ) → i < length pending → j < length pending → NotBefore bounds i j
      → CanReach graph (get_or pending i 0) (get_or pending j 0)
  pub followed : (i w : ℕ) → i < length pending → HasEdge graph (get_or pending i 0) w
      → Contains arcs (arc i w) ⊎ IsFollowed statuses bounds i w
  pub left : (a : Arc) → Contains arcs a → (a.from < length pending) × HasEdge graph (get_or pending a.from 0) a.to
  pub arcs_rise : AreRising (map (λ a. a.from) arcs)
  pub bounds_rise : AreRising bounds
  pub within : (b : ℕ) → Contains bounds b → b ≤ length pending
  pub first : 0 < length pending → Contains bounds 0

-- each vertex of the list comes after its successors, except those that lead back to it
abbrev pub ComeAfter : List (List ℕ) → List ℕ → Type 0
ComeAfter graph order = (i w : ℕ) → i < length order → HasEdge graph (get_or order i 0) w
    → Contains (take i order) w ⊎ CanReach graph w (get_or order i 0)

-- No arc leaves the complete components, the ring marks of their vertices are right, and all of them are listed.
pub record AreFound (graph : List (List ℕ)) (statuses : List VertexStatus) (rings : List Bool) (order : List ℕ) : Type 0 where
  pub long : length rings ≡ length graph
  pub closed : (v w : ℕ) → status_at statuses v ≡ Complete → HasEdge graph v w → status_at statuses w ≡ Complete
  pub tells : (v : ℕ) → status_at statuses v ≡ Complete → TellsRings graph v (get_or rings v true)
  pub listed : (v : ℕ) → status_at statuses v ≡ Complete → Contains order v
  pub within : All (λ v. v < length graph) order
  pub after : ComeAfter graph order

-- the invariant of the search; each vertex is new, pending or listed
pub record IsKept (graph : List (List ℕ)) (s : Search) : Type 0 where
  pub search : IsSearch graph s.statuses.items s.pending.items s.bounds.items s.arcs.items
  pub found : AreFound graph s.statuses.items s.rings.items s.order.items
  pub room : count_by is_new s.statuses.items + length s.pending.items + length s.order.items ≡ length graph

-- no component has been begun
abbrev pub IsIdle : Search → Type 0
IsIdle s = s.pending.items ≡ []

abbrev pub IsMet : Search → ℕ → Type 0
IsMet s v = status_at s.statuses.items v ≡ New → ⊥

-- each vertex that was met still is
abbrev pub StayMet : Search → Search → Type 0
StayMet old new = (v : ℕ) → IsMet old v → IsMet new v

-- an upper bound on the steps left: to meet a vertex, to follow an arc, to complete a component
abbrev pub steps_left : Groups ℕ → Search → ℕ
steps_left graph s = count_by is_new s.statuses.items * (length graph.items.items + 2) + length s.arcs.items + length s.bounds.items

-- the last arc that is left leads to `end`, and begins in the last component
abbrev pub IsNextEnd : List Arc → List ℕ → ℕ → Type 0
IsNextEnd arcs bounds end = (rest : List Arc) × ((from : ℕ) × (arcs ≡ rest ++ arc from end ∷ [])
    × ((b : ℕ) → Contains bounds b → b ≤ from))

-- `new` has exactly the bounds up to an index
pub record AreBoundsTo (index : ℕ) (old new : List ℕ) : Type 0 where
  pub right : (b : ℕ) → Contains new b → Contains old b × (b ≤ index)
  pub all : (b : ℕ) → Contains old b → b ≤ index → Contains new b
  pub rise : AreRising new
  pub fewer : length new ≤ length old

-- several vertices of a component are on a ring; a single one is if an edge leads from it to itself
pub record TellsComponent (graph : List (List ℕ)) (component : List ℕ) (on_ring : Bool) : Type 0 where
  pub several : 1 < length component → on_ring ≡ true
  pub yes : (v : ℕ) → component ≡ v ∷ [] → on_ring ≡ true → HasEdge graph v v
  pub no : (v : ℕ) → component ≡ v ∷ [] → HasEdge graph v v → on_ring ≡ true

-- the list with the item at each of the indices
abbrev pub set_at_each : {A : Type 0} → List A → List ℕ → A → List A
set_at_each xs [] x = xs
set_at_each xs (v ∷ vs) x = set_at_each (slice_set xs v x) vs x

-- all vertices, each once and after its successors, except those that lead back to it
pub record IsFinishing (graph : List (List ℕ)) (order : List ℕ) : Type 0 where
  pub long : length order ≡ length graph
  pub all : (v : ℕ) → v < length graph → Contains order v
  pub within : All (λ v. v < length graph) order
  pub after : ComeAfter graph order
