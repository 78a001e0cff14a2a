use Rattle.std.proofs.Common.{◌≡◌, map, take}
use Rattle.std.specs.Prelude.{string_bytes}
use Rattle.std.specs.List.{flat_map}
use Rattle.tree.specs.Trees.{definition_tree}
use Rattle.singcheck.specs.Replays.{struct_in}
use Rattle.singcheck.proofs.entries.struct_names.Given as goal

-- the structs so far
abbrev pub invariant-loop-item : goal.invariant-loop-item
invariant-loop-item l = map string_bytes l.names.items ≡ flat_map (λ i. struct_in l.text (definition_tree i.definition)) (take l.item-index l.item-items)
