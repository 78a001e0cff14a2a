use Rattle.std.proofs.Common.{◌≡◌, ◌++◌, map, take}
use Rattle.std.specs.List.{flat_map}
use Rattle.tree.specs.Trees.{path_tree}
use Rattle.declarations.specs.Declarations.{unnamed_of}
use Rattle.declarations.specs.Numbered.{unnamed_names}
use Rattle.declarations.proofs.state_names.add_paths.Given as goal

abbrev pub invariant-loop-path : goal.invariant-loop-path
invariant-loop-path l = l.names.items ≡ l.fn.names.items ++ unnamed_names (flat_map unnamed_of (map path_tree (take l.path-index l.paths)))
