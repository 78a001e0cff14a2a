use Rattle.std.proofs.Common.{◌≡◌, ◌-◌, ◌+◌, length}
use Rattle.machine.specs.BlockViews.{blocks_model}
use Rattle.machine.proofs.heaps.BlockHeap.list.Given as goal

abbrev pub invariant-loop-self : goal.invariant-loop-self
invariant-loop-self l = blocks_model l.self.blocks.items ≡ blocks_model l.initial.self.blocks.items

abbrev pub decreases-loop-self : goal.decreases-loop-self
decreases-loop-self l = l.process + 1 - length l.self.counts.items
