-- Arcs linked by the vertex at which they begin.
use Rattle.std.specs.Prelude.{◌≡◌, ℕ, ◌+◌, ◌<◌, ◌≤◌, List, length, filter, drop, get_or}
use Rattle.contracts.specs.declared.arcs.Arc.{Arc}
use Rattle.contracts.specs.Arcs.{arc, begins, ends_from}
use Rattle.contracts.specs.Graphs.{group_at}

abbrev pub start_at : List Arc → ℕ → ℕ
start_at arcs i = (get_or arcs i (arc 0 0)).from

-- j is the index of the first arc, from k on, that begins at v; past the last arc if there is none
pub record IsFirstArc (arcs : List Arc) (v k j : ℕ) : Type 0 where
  pub behind : k ≤ j
  pub none : filter (begins v) (drop k arcs) ≡ filter (begins v) (drop j arcs)
  pub here : j < length arcs → start_at arcs j ≡ v

-- from index k on, each vertex is linked to its first arc, and each arc to the next one of its vertex
pub record AreChained (arcs : List Arc) (k : ℕ) (firsts nexts : List ℕ) : Type 0 where
  pub long : length nexts ≡ length arcs
  pub first : (v : ℕ) → v < length firsts → IsFirstArc arcs v k (get_or firsts v 0)
  pub next : (i : ℕ) → k ≤ i → i < length arcs → IsFirstArc arcs (start_at arcs i) (i + 1) (get_or nexts i 0)

-- `count` groups, each with the ends of the arcs that begin at its vertex
pub record AreEnds (arcs : List Arc) (count : ℕ) (graph : List (List ℕ)) : Type 0 where
  pub long : length graph ≡ count
  pub group : (v : ℕ) → v < count → group_at graph v ≡ ends_from arcs v
