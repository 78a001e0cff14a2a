use Rattle.std.proofs.Common.{◌≡◌, ◌+◌, ◌++◌, length, map, take}
use Rattle.std.specs.List.{flat_map}
use Rattle.tree.specs.Trees.{path_tree}
use Rattle.declarations.specs.Declarations.{unnamed_of}
use Rattle.declarations.specs.Meant.{meanings}
use Rattle.declarations.specs.Resolution.{paths_edges}
use Rattle.declarations.proofs.edges.add_paths.Given as goal

abbrev pub invariant-loop-path : goal.invariant-loop-path
invariant-loop-path l = record {
  unnamed : l.unnamed ≡ l.state + 1 + length (flat_map unnamed_of (map path_tree (take l.path-index l.paths)));
  edges : l.edges.items ≡ l.fn.edges.items ++ paths_edges (meanings l.meaning) l.state (map path_tree (take l.path-index l.paths));
}
