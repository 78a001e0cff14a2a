use Rattle.std.proofs.Common.{Contains, Some, take}
use Rattle.machine.specs.Views.{variables_model}
use Rattle.lost.specs.Marks.{AddsMarks}
use Rattle.lost.proofs.marking.Reach.mark_variables.Given as goal

abbrev pub invariant-loop-number : goal.invariant-loop-number
invariant-loop-number l = AddsMarks (λ a. Contains (take l.number (variables_model l.variables)) (Some a)) l.initial.self l.self
