use Rattle.std.proofs.Common.{map, take}
use Rattle.machine.specs.BlockViews.{held_model}
use Rattle.machine.specs.Blocks.{with_new_owner}
use Rattle.machine.specs.Heaps.{brings}
use Rattle.machine.specs.declared.worlds.Owner.TheVariants.{Channel}
use Rattle.machine.proofs.CountLemmas.{Handed}
use Rattle.machine.proofs.changing.lose.Given as goal

abbrev pub invariant-loop-number : goal.invariant-loop-number
invariant-loop-number l = Handed (with_new_owner Channel (brings (map held_model (take l.number l.queue.items)))) l.initial.blocks.items l.blocks.items l.initial.counts.items l.counts.items
