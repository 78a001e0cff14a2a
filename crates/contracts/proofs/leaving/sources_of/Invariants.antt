use Rattle.contracts.specs.Leaving.{AreSources}
use Rattle.contracts.specs.Positions.{numbers_of}
use Rattle.contracts.proofs.leaving.sources_of.Given as goal

abbrev pub invariant-loop-i : goal.invariant-loop-i
invariant-loop-i l = AreSources (numbers_of l.states) l.edges l.i l.sources.items
