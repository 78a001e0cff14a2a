use Rattle.std.proofs.Common.{◌≡◌, map, take}
use Rattle.tree.specs.Trees.{method_tree}
use Rattle.declarations.specs.Owning.{can_start}
use Rattle.declarations.proofs.starts.startable_methods.Given as goal

abbrev pub invariant-loop-method : goal.invariant-loop-method
invariant-loop-method l = l.startable.items ≡ map can_start (map method_tree (take l.method-index l.methods))
