use Rattle.std.proofs.Common.{ℕ, List, drop}
use Rattle.tree.specs.Trees.{ItemTree}
use Rattle.resolving.specs.Around.{IsAround, program_in}
use Rattle.resolving.specs.Binds.{binds_told}
use Rattle.resolving.specs.Frames.{IsLocalFrame}
use Rattle.resolving.specs.Locals.{LocalFrame}
use Rattle.resolving.proofs.BindLemmas.{Binding}
use Rattle.resolving.proofs.cases.declare_binds.Given as goal

abbrev pub invariant-loop-index : goal.invariant-loop-index
invariant-loop-index l = (items : List ItemTree) (own : ℕ) (f : LocalFrame) → IsAround (program_in l.text items) own l.around → IsLocalFrame l.text f l.fn.locals
    → Binding l.text l.bound.items l.locals (binds_told (program_in l.text items) l.params l.binds f) (binds_told (program_in l.text items) (drop l.index l.params) (drop l.index l.binds))
