use Rattle.std.proofs.Common.{◌≡◌, ℕ, List, map}
use Rattle.tree.specs.ExpressionTrees.{expression_tree}
use Rattle.tree.specs.Trees.{ItemTree}
use Rattle.resolving.specs.Around.{program_in}
use Rattle.resolving.specs.Frames.{IsLocalFrame}
use Rattle.resolving.specs.Locals.{LocalFrame}
use Rattle.resolving.specs.Plain.{arguments}
use Rattle.resolving.proofs.CalleeLemmas.{given_to_end}
use Rattle.resolving.proofs.calls.arguments_of.Given as goal

abbrev pub invariant-loop-parameter : goal.invariant-loop-parameter
invariant-loop-parameter l = (items : List ItemTree) (own : ℕ) (f : LocalFrame) → IsLocalFrame l.text f l.locals
    → given_to_end (program_in l.text items) own f l.given.items l.parameter-iterator ≡ arguments (program_in l.text items) own f l.parameters (map expression_tree l.arguments)
