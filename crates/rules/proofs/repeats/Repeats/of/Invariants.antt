use Rattle.rules.proofs.RepeatLemmas.{Kept}
use Rattle.rules.proofs.repeats.Repeats.of.Given as goal

abbrev pub invariant-loop-point : goal.invariant-loop-point
invariant-loop-point l = Kept l.repeats l.graph.instructions.items l.point
