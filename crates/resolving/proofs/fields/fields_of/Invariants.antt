use Rattle.std.proofs.Common.{◌≡◌, ℕ, List, map, take}
use Rattle.tree.specs.Trees.{item_tree}
use Rattle.program.specs.Programs.{type_lists}
use Rattle.resolving.specs.Around.{IsDirectory, owning_indices, program_in}
use Rattle.resolving.proofs.FieldLemmas.{first_fields}
use Rattle.resolving.proofs.fields.fields_of.Given as goal

abbrev pub invariant-loop-item : goal.invariant-loop-item
invariant-loop-item l = (text : List ℕ) → IsDirectory (program_in text (map item_tree l.items)) l.directory
    → (type_lists l.structs.items ≡ first_fields (program_in text (map item_tree l.items)) l.items l.item-index)
    × (map (λ x. x.items) l.indices.items ≡ map (λ i. owning_indices (program_in text (map item_tree l.items)) (item_tree i)) (take l.item-index l.items))
