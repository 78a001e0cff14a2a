use Rattle.std.proofs.Common.{◌≤◌, List, length, drop}
use Rattle.declarations.specs.declared.mistake.Mistake.{Mistake}
use Rattle.names.specs.Expressions.{InScope}
use Rattle.names.specs.Operands.{IsOperand}
use Rattle.names.specs.Shapes.{Shape, with_signs}
use Rattle.names.proofs.expressions.judge_signs.Given as goal

abbrev pub invariant-loop-left : goal.invariant-loop-left
invariant-loop-left l = record {
  within : l.left ≤ length l.prefixes;
  judged : (s : InScope) (e : Shape) (start : List Mistake) → IsOperand s e start l.fn.found.items l.fn.inner → IsOperand s (with_signs (drop l.left l.prefixes) e) start l.found.items l.operand;
}

abbrev pub decreases-loop-left : goal.decreases-loop-left
decreases-loop-left l = l.left
