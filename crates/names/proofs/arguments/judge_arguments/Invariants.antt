use Rattle.std.proofs.Common.{map, drop}
use Rattle.tree.specs.ExpressionTrees.{expression_tree}
use Rattle.names.specs.Frames.{IsNameFrame}
use Rattle.declarations.specs.Program.{ProgramText}
use Rattle.declarations.specs.Scopes.{IsScope}
use Rattle.names.specs.Shapes.{shape}
use Rattle.names.specs.Values.{argument_mistakes}
use Rattle.names.specs.Variables.{NameFrame}
use Rattle.names.proofs.PendingLemmas.{Pends}
use Rattle.names.proofs.arguments.judge_arguments.Given as goal

abbrev pub invariant-loop-index : goal.invariant-loop-index
invariant-loop-index l = (p : ProgramText) (f : NameFrame) → IsScope p l.scope → IsNameFrame p.text f l.variables
    → Pends l.fn.found.items l.found.items (argument_mistakes (record { program = p; variables = f.variables }) l.asked (map shape (map expression_tree l.arguments)))
    (argument_mistakes (record { program = p; variables = f.variables }) (drop l.index l.asked) (drop l.index (map shape (map expression_tree l.arguments))))
