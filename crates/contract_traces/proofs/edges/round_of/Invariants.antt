use Rattle.contracts.specs.Walks.{HasSign, IsWalk}
use Rattle.contract_traces.proofs.edges.round_of.Given as goal

abbrev pub invariant-loop-index : goal.invariant-loop-index
invariant-loop-index l = record {
  walk : IsWalk l.edges l.state l.walk.items l.at;
  one_sign : HasSign l.sign l.walk.items;
}
