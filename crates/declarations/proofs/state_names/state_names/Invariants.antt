use Rattle.std.proofs.Common.{◌≡◌, map, take}
use Rattle.std.specs.List.{flat_map}
use Rattle.tree.specs.Trees.{state_tree}
use Rattle.declarations.specs.Numbered.{names_in, indices_named}
use Rattle.declarations.proofs.state_names.state_names.Given as goal

abbrev pub invariant-loop-state : goal.invariant-loop-state
invariant-loop-state l = record {
  all : l.all.items ≡ flat_map names_in (map (λ s. state_tree s.now) (take l.state-index l.states));
  named : l.named.items ≡ indices_named (map (λ s. state_tree s.now) (take l.state-index l.states));
}
