use Rattle.std.proofs.Common.{take}
use Rattle.std.specs.Prelude.{All}
use Rattle.contracts.specs.Positions.{EndsHave, numbers_of}
use Rattle.contracts.proofs.wholeness.are_listed.Given as goal

abbrev pub invariant-loop-edge : goal.invariant-loop-edge
invariant-loop-edge l = All (EndsHave (numbers_of l.states) (numbers_of l.messages)) (take l.edge-index l.edges)
