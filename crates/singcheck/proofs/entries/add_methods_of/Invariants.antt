use Rattle.std.proofs.Common.{◌≡◌, ◌++◌, map, take}
use Rattle.tree.specs.Trees.{method_tree}
use Rattle.singcheck.specs.Replays.{full_name}
use Rattle.singcheck.proofs.entries.add_methods_of.Given as goal

-- the names of the methods so far are added
abbrev pub invariant-loop-method : goal.invariant-loop-method
invariant-loop-method l = map (λ name. name.items) l.names.items
    ≡ map (λ name. name.items) l.initial.names.items
    ++ map (λ m. full_name l.text l.class.name (method_tree m)) (take l.method-index l.method-items)
