use Rattle.std.proofs.Common.{◌≡◌, ◌<◌, ◌-◌, ◌++◌, length, drop}
use Rattle.contracts.specs.Arcs.{ends_from}
use Rattle.contracts.specs.Chains.{start_at}
use Rattle.contracts.proofs.grouping.follow.Given as goal

abbrev pub invariant-chain : goal.invariant-chain
invariant-chain l = record {
  so_far : l.ends.items ++ ends_from (drop l.at l.arcs) l.vertex ≡ l.initial.ends.items ++ ends_from l.arcs l.vertex;
  here : l.at < length l.arcs → start_at l.arcs l.at ≡ l.vertex;
}

abbrev pub decreases-chain : goal.decreases-chain
decreases-chain l = length l.arcs - l.at
