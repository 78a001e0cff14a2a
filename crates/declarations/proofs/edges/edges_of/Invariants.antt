use Rattle.std.proofs.Common.{◌≡◌, map, take}
use Rattle.tree.specs.Trees.{state_tree}
use Rattle.declarations.specs.Meant.{meanings}
use Rattle.declarations.specs.Resolution.{edges_from}
use Rattle.declarations.proofs.edges.edges_of.Given as goal

abbrev pub invariant-loop-i : goal.invariant-loop-i
invariant-loop-i l = l.edges.items ≡ edges_from (meanings l.meaning) l.meaning.states_before (map (λ s. state_tree s.now) (take l.i l.meaning.declared.now.outline.states.items))
