-- Which vertices are on a ring.
use Rattle.std.specs.Prelude.{◌≡◌, ℕ, ◌<◌, List, length, Bool, true, get_or}
use Rattle.contracts.specs.Graphs.{OnRing}

-- `on` is true exactly if the vertex is on a ring
pub record TellsRings (graph : List (List ℕ)) (v : ℕ) (on : Bool) : Type 0 where
  pub yes : on ≡ true → OnRing graph v
  pub no : OnRing graph v → on ≡ true

-- exactly the vertices on rings are marked
pub record AreRings (graph : List (List ℕ)) (rings : List Bool) : Type 0 where
  pub long : length rings ≡ length graph
  pub tells : (v : ℕ) → v < length graph → TellsRings graph v (get_or rings v true)
