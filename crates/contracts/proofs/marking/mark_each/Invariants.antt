use Rattle.std.proofs.Common.{take}
use Rattle.contracts.specs.Marking.{AreMarkSteps}
use Rattle.contracts.proofs.marking.mark_each.Given as goal

abbrev pub invariant-loop-v : goal.invariant-loop-v
invariant-loop-v l = AreMarkSteps l.initial.marks.items l.marks.items l.initial.work.items l.work.items (take l.v-index l.vertices)
