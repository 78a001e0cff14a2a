use Rattle.std.proofs.Common.{◌≡◌, ◌++◌, ℕ, List, map, take}
use Rattle.tree.specs.Trees.{ItemTree, method_tree}
use Rattle.program.specs.Methods.{method_model}
use Rattle.resolving.specs.Around.{IsAround, program_in}
use Rattle.resolving.specs.Methods.{method_told}
use Rattle.resolving.proofs.methods.add_methods.Given as goal

abbrev pub invariant-loop-method : goal.invariant-loop-method
invariant-loop-method l = (items : List ItemTree) (own : ℕ) → IsAround (program_in l.text items) own l.around
    → map method_model l.resolved.items ≡ map method_model l.fn.resolved.items ++ map (λ m. method_told (program_in l.text items) own (method_tree m)) (take l.method-index l.methods)
