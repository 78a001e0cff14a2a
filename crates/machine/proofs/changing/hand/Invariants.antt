use Rattle.std.proofs.Common.{take}
use Rattle.machine.specs.Blocks.{with_new_owner}
use Rattle.machine.proofs.CountLemmas.{Handed}
use Rattle.machine.proofs.changing.hand.Given as goal

abbrev pub invariant-loop-a : goal.invariant-loop-a
invariant-loop-a l = Handed (with_new_owner l.to (take l.a-index l.given)) l.initial.blocks.items l.blocks.items l.initial.counts.items l.counts.items
