use Rattle.std.proofs.Common.{take}
use Rattle.std.specs.List.{flat_map}
use Rattle.tree.specs.Trees.{ClassTree, method_tree}
use Rattle.declarations.specs.Mistakes.{Adds}
use Rattle.names.specs.Methods.{method_turn}
use Rattle.declarations.specs.Program.{ProgramText}
use Rattle.declarations.specs.Scopes.{IsScope, AreMethods}
use Rattle.names.proofs.methods.judge_methods.Given as goal

abbrev pub invariant-loop-method : goal.invariant-loop-method
invariant-loop-method l = (p : ProgramText) (c : ClassTree) → IsScope p l.scope → AreMethods p.text c l.methods → Adds l.fn.found.items l.found.items (flat_map (λ m. (method_turn p c (method_tree m)).found) (take l.method-index l.method-items))
