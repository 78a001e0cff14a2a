use Rattle.std.proofs.Common.{take}
use Rattle.contracts.specs.Arcs.{AreArcs}
use Rattle.contracts.specs.Positions.{numbers_of}
use Rattle.contracts.proofs.arcs.arcs_of.Given as goal

abbrev pub invariant-loop-edge : goal.invariant-loop-edge
invariant-loop-edge l = AreArcs (numbers_of l.states) (take l.edge-index l.edges) l.sign l.arcs.items
