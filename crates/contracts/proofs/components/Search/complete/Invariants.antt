use Rattle.contracts.specs.Graphs.{groups}
use Rattle.contracts.specs.Searches.{IsKept, StayMet, steps_left}
use Rattle.contracts.proofs.components.Search.complete.Given as goal

abbrev pub invariant-components : goal.invariant-components
invariant-components l = record {
  kept : IsKept (groups l.graph) l.self;
  met : StayMet l.initial.self l.self;
}

abbrev pub decreases-components : goal.decreases-components
decreases-components l = steps_left l.graph l.self
