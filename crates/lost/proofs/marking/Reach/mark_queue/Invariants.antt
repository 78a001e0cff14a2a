use Rattle.std.proofs.Common.{map, take}
use Rattle.machine.specs.Views.{held_model}
use Rattle.lost.specs.Marks.{Brings, AddsMarks}
use Rattle.lost.proofs.marking.Reach.mark_queue.Given as goal

abbrev pub invariant-loop-index : goal.invariant-loop-index
invariant-loop-index l = AddsMarks (Brings (map held_model (take l.index l.queue.items))) l.initial.self l.self
