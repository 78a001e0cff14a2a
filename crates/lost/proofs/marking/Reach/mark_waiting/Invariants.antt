use Rattle.std.proofs.Common.{map, reverse, take}
use Rattle.machine.specs.Views.{frame_model}
use Rattle.lost.specs.Marks.{Have, AddsMarks}
use Rattle.lost.proofs.marking.Reach.mark_waiting.Given as goal

abbrev pub invariant-loop-done : goal.invariant-loop-done
invariant-loop-done l = AddsMarks (Have (map frame_model (take l.done (reverse l.waiting)))) l.initial.self l.self
