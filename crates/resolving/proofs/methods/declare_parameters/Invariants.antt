use Rattle.std.proofs.Common.{ℕ, List, take}
use Rattle.tree.specs.Trees.{ItemTree}
use Rattle.resolving.specs.Around.{IsAround, program_in}
use Rattle.resolving.specs.Frames.{IsLocalFrame}
use Rattle.resolving.specs.Locals.{LocalFrame}
use Rattle.resolving.specs.Methods.{parameters_frame}
use Rattle.resolving.proofs.methods.declare_parameters.Given as goal

abbrev pub invariant-loop-parameter : goal.invariant-loop-parameter
invariant-loop-parameter l = (items : List ItemTree) (own : ℕ) (f : LocalFrame) → IsAround (program_in l.text items) own l.around → IsLocalFrame l.text f l.fn.locals
    → IsLocalFrame l.text (parameters_frame (program_in l.text items) (take l.parameter-index l.params) f) l.locals
