-- Which vertices are reached, and how far walks lead from them.
use Rattle.std.specs.Prelude.{ℕ, ◌≤◌, List, [], ◌∷◌, ◌++◌, Bool, if◌then◌else◌, unwrap_or, Option}
use Rattle.contracts.specs.Graphs.{Walk}
use Rattle.contracts.specs.Marking.{IsMarked}

-- the graph in which each vertex has its edges of both graphs
abbrev pub union : List (List ℕ) → List (List ℕ) → List (List ℕ)
union [] more = more
union (group ∷ groups) [] = group ∷ groups
union (group ∷ groups) (other ∷ others) = (group ++ other) ∷ union groups others

-- exactly the vertices that can be reached from the first one along edges of both graphs are marked
pub record AreReached (sends receives : List (List ℕ)) (first : ℕ) (marks : List Bool) : Type 0 where
  pub right : (v : ℕ) → IsMarked marks v → (n : ℕ) × Walk (union sends receives) first v n
  pub all : (v n : ℕ) → Walk (union sends receives) first v n → IsMarked marks v

-- n is the greatest length of a walk from a marked vertex
pub record IsLongest (graph : List (List ℕ)) (marks : List Bool) (n : ℕ) : Type 0 where
  pub most : (v w m : ℕ) → IsMarked marks v → Walk graph v w m → m ≤ n
  pub from : ℕ
  pub to : ℕ
  pub marked : IsMarked marks from
  pub walk : Walk graph from to n

-- the height of a marked vertex; 0 for any other, or if the height is unknown
abbrev pub counted_height : Option ℕ → Bool → ℕ
counted_height height mark = if mark then unwrap_or height 0 else 0
