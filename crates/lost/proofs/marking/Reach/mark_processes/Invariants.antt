use Rattle.std.proofs.Common.{map, take}
use Rattle.machine.specs.Views.{stack_model}
use Rattle.lost.specs.Marks.{HaveAny, AddsMarks}
use Rattle.lost.proofs.marking.Reach.mark_processes.Given as goal

abbrev pub invariant-loop-process : goal.invariant-loop-process
invariant-loop-process l = AddsMarks (HaveAny (map stack_model (take l.process-index l.processes))) l.initial.self l.self
