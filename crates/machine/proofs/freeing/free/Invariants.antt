use Rattle.machine.specs.BlockViews.{blocks_model}
use Rattle.machine.specs.Heaps.{IsCounted}
use Rattle.machine.proofs.FreeLemmas.{IsOnWay, left_over}
use Rattle.machine.proofs.freeing.free.Given as goal

abbrev pub invariant-way : goal.invariant-way
invariant-way l = record {
  way : IsOnWay (blocks_model l.initial.blocks.items) l.a (blocks_model l.blocks.items) l.at;
  counted : IsCounted (blocks_model l.blocks.items) l.counts.items;
}

abbrev pub decreases-way : goal.decreases-way
decreases-way l = left_over (blocks_model l.blocks.items) l.at
