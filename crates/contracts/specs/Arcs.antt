-- Edges as arcs between the positions of their states.
use Rattle.std.specs.Prelude.{◌≡◌, ◌==◌, ℕ, ◌<◌, Bool, List, length, map, filter, Contains, All, slice_index}
use Rattle.program.specs.declared.contract.Sign.{Sign}
use Rattle.program.specs.declared.contract.Edge.{Edge}
use Rattle.contracts.specs.declared.arcs.Arc.{Arc}
use Rattle.contracts.specs.Graphs.{HasEdge, InRange}

abbrev pub arc : ℕ → ℕ → Arc
arc v w = record { from = v; to = w }

abbrev pub begins : ℕ → Arc → Bool
begins v a = a.from == v

-- the ends of the arcs that begin at a vertex, in order
abbrev pub ends_from : List Arc → ℕ → List ℕ
ends_from arcs v = map (λ a. a.to) (filter (begins v) arcs)

-- both ends of each arc are below the count
abbrev pub AllWithin : ℕ → List Arc → Type 0
AllWithin count arcs = All (λ a. (a.from < count) × (a.to < count)) arcs

-- the graph has exactly these arcs
pub record AreGroups (count : ℕ) (arcs : List Arc) (graph : List (List ℕ)) : Type 0 where
  pub long : length graph ≡ count
  pub range : InRange graph
  pub right : (v w : ℕ) → HasEdge graph v w → Contains arcs (arc v w)
  pub all : (v w : ℕ) → Contains arcs (arc v w) → HasEdge graph v w

-- the arc leads between the positions of the edge's states
pub record Joins (numbers : List ℕ) (e : Edge) (v w : ℕ) : Type 0 where
  pub v_in : v < length numbers
  pub w_in : w < length numbers
  pub from : slice_index numbers v ≡ e.from.0
  pub to : slice_index numbers w ≡ e.to.0

-- the arcs are exactly those of the edges that have the sign
pub record AreArcs (numbers : List ℕ) (edges : List Edge) (sign : Sign) (arcs : List Arc) : Type 0 where
  pub right : (a : Arc) → Contains arcs a → (e : Edge) × Contains edges e × (e.sign ≡ sign) × Joins numbers e a.from a.to
  pub all : (e : Edge) → Contains edges e → e.sign ≡ sign → (a : Arc) × Contains arcs a × Joins numbers e a.from a.to

-- the graph has exactly the edges for which `Has` holds
pub record IsDrawn (numbers : List ℕ) (edges : List Edge) (Has : Edge → Type 0) (graph : List (List ℕ)) : Type 0 where
  pub long : length graph ≡ length numbers
  pub right : (v w : ℕ) → HasEdge graph v w → (e : Edge) × Contains edges e × Has e × Joins numbers e v w
  pub all : (e : Edge) → Contains edges e → Has e → (v : ℕ) × ((w : ℕ) × HasEdge graph v w × Joins numbers e v w)

-- the states of the edges are in the list
abbrev pub EndsListed : List ℕ → List Edge → Type 0
EndsListed numbers edges = (e : Edge) → Contains edges e → Contains numbers e.from.0 × Contains numbers e.to.0
