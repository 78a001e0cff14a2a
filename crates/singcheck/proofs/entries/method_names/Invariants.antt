use Rattle.std.proofs.Common.{◌≡◌, map, take}
use Rattle.std.specs.List.{flat_map}
use Rattle.tree.specs.Trees.{definition_tree}
use Rattle.singcheck.specs.Replays.{names_in}
use Rattle.singcheck.proofs.entries.method_names.Given as goal

-- the names so far
abbrev pub invariant-loop-item : goal.invariant-loop-item
invariant-loop-item l = map (λ name. name.items) l.names.items
    ≡ flat_map (λ i. names_in l.text (definition_tree i.definition)) (take l.item-index l.item-items)
