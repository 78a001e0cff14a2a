use Rattle.std.proofs.Common.{◌≡◌, ◌++◌, take}
use Rattle.std.specs.List.{flat_map}
use Rattle.tree.specs.Trees.{path_tree}
use Rattle.declarations.specs.Declarations.{unnamed_of}
use Rattle.declarations.proofs.counted.add_paths.Given as goal

abbrev pub invariant-loop-path : goal.invariant-loop-path
invariant-loop-path l = l.names.items ≡ l.fn.names.items ++ flat_map (λ p. unnamed_of (path_tree p)) (take l.path-index l.paths)
