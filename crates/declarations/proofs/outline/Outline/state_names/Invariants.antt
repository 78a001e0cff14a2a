use Rattle.std.proofs.Common.{◌≡◌, map, take}
use Rattle.tree.specs.Trees.{state_tree}
use Rattle.declarations.proofs.outline.Outline.state_names.Given as goal

abbrev pub invariant-loop-state : goal.invariant-loop-state
invariant-loop-state l = l.names.items ≡ map (λ s. (state_tree s.now).name) (take l.state-index l.state-items)
