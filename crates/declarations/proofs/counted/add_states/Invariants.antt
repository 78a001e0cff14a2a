use Rattle.std.proofs.Common.{◌≡◌, ◌++◌, take}
use Rattle.std.specs.List.{flat_map}
use Rattle.tree.specs.Trees.{state_tree}
use Rattle.declarations.specs.Declarations.{counted_in_state}
use Rattle.declarations.proofs.counted.add_states.Given as goal

abbrev pub invariant-loop-state : goal.invariant-loop-state
invariant-loop-state l = l.names.items ≡ l.fn.names.items ++ flat_map (λ s. counted_in_state (state_tree s.now)) (take l.state-index l.states)
