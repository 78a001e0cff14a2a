use Rattle.std.proofs.Common.{◌≡◌, ◌+◌, ◌++◌, [], drop}
use Rattle.tree.specs.Trees.{path_tree}
use Rattle.declarations.specs.Listed.{asked_message}
use Rattle.declarations.specs.Meant.{meanings, message_names, text_of, path_left}
use Rattle.declarations.specs.Resolution.{path_edges}
use Rattle.declarations.proofs.edges.add_path.Given as goal

abbrev pub invariant-loop-next : goal.invariant-loop-next
invariant-loop-next l = record {
  to : l.to ≡ l.unnamed + l.next-index;
  declared : asked_message (text_of l.meaning) (message_names l.meaning) l.edge.message ≡ [];
  edges : l.edges.items ++ path_left (meanings l.meaning) l.from l.to l.edge (drop l.next-index l.path.others.items) l.path.target
      ≡ l.fn.edges.items ++ path_edges (meanings l.meaning) l.state l.unnamed (path_tree l.path);
}
