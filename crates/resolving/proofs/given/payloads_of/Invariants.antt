use Rattle.std.proofs.Common.{◌≡◌, ℕ, List, map, take}
use Rattle.tree.specs.ExpressionTrees.{expression_tree}
use Rattle.tree.specs.Trees.{ItemTree}
use Rattle.resolving.specs.Around.{program_in}
use Rattle.resolving.specs.Frames.{IsLocalFrame}
use Rattle.resolving.specs.Locals.{LocalFrame}
use Rattle.resolving.specs.Plain.{payloads}
use Rattle.resolving.proofs.given.payloads_of.Given as goal

abbrev pub invariant-loop-argument : goal.invariant-loop-argument
invariant-loop-argument l = (items : List ItemTree) (own : ℕ) (f : LocalFrame) → IsLocalFrame l.text f l.locals
    → l.payloads.items ≡ payloads (program_in l.text items) own f (map expression_tree (take l.argument-index l.arguments))
