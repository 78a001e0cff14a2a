use Rattle.std.proofs.Common.{◌≡◌, ◌-◌, length}
use Rattle.contracts.specs.Chains.{AreChained}
use Rattle.contracts.proofs.grouping.chains_of.Given as goal

abbrev pub invariant-loop-i : goal.invariant-loop-i
invariant-loop-i l = record {
  count : length l.firsts.items ≡ l.count;
  chained : AreChained l.arcs (length l.arcs - l.i) l.firsts.items l.nexts.items;
}
