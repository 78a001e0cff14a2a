-- The graphs of a contract, one for the edges of each sign between the positions of their states, and what is read from them.
use Rattle.std.specs.Prelude.{◌≡◌, ◌==◌, ℕ, List, length, map, not}
use Rattle.program.specs.declared.contract.Contract.{Contract}
use Rattle.program.specs.declared.contract.Sign.{Sign}
use Rattle.program.specs.declared.contract.Sign.TheVariants.{Send, Receive}
use Rattle.contracts.specs.declared.arcs.Marks.{Marks}
use Rattle.contracts.specs.declared.arcs.SignGraph.{SignGraph}
use Rattle.contracts.specs.declared.drawing.Drawing.{Drawing}
use Rattle.contracts.specs.Arcs.{IsDrawn}
use Rattle.contracts.specs.Bounds.{IsBound}
use Rattle.contracts.specs.Conditions.{IsSound}
use Rattle.contracts.specs.Graphs.{InRange, groups}
use Rattle.contracts.specs.Rings.{AreRings}
use Rattle.contracts.specs.Parts.{contract_parts}
use Rattle.contracts.specs.Peeling.{AreHeights}

-- the graph has exactly the edges of the contract that have the sign
abbrev pub DrawsSign : Contract → Sign → List (List ℕ) → Type 0
DrawsSign c sign graph = IsDrawn (map (λ s. s.id.0) c.states.items) c.edges.items (λ x. x.sign ≡ sign) graph

-- the graph of the edges of the sign, with the heights and the ring marks of its vertices
pub record IsSignGraph (c : Contract) (sign : Sign) (graph : SignGraph) : Type 0 where
  pub range : InRange (groups graph.groups)
  pub heights : AreHeights (groups graph.groups) graph.heights.items
  pub rings : AreRings (groups graph.groups) graph.rings.items
  pub drawn : DrawsSign c sign (groups graph.groups)

-- a state is marked in `leaves` if an edge of the sign begins there, and in `rings` if such edges lead from it back to it
pub record AreMarks (c : Contract) (sign : Sign) (marks : Marks) : Type 0 where
  pub graph : List (List ℕ)
  pub drawn : DrawsSign c sign graph
  pub leaves : marks.leaves.items ≡ map (λ group. not (length group == 0)) graph
  pub rings : AreRings graph marks.rings.items

-- the marks are those of each sign, and the bounds are right if the contract is sound
pub record IsDrawing (c : Contract) (drawing : Drawing) : Type 0 where
  pub sends : AreMarks c Send drawing.sends
  pub receives : AreMarks c Receive drawing.receives
  pub to_imp : IsSound (contract_parts c) → IsBound c.edges.items c.first Send drawing.bounds.to_imp
  pub to_exp : IsSound (contract_parts c) → IsBound c.edges.items c.first Receive drawing.bounds.to_exp
