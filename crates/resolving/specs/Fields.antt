-- The owning fields of structs, and which of them a name means.
use Rattle.std.specs.Prelude.{ℕ, List, map, length, take, Option, None, option_map, option_and_then}
use Rattle.std.specs.List.{flat_map}
use Rattle.source.specs.declared.token.Span.{Span}
use Rattle.tree.specs.Trees.{StructTree}
use Rattle.tree.specs.declared.class.Field.{Field}
use Rattle.declarations.specs.Declarations.{first_among}
use Rattle.declarations.specs.Program.{ProgramText, Numbered, as_struct, item_at}
use Rattle.declarations.specs.declared.value_type as names
use Rattle.declarations.specs.declared.value_type.ValueType.TheVariants as name_type
use Rattle.program.specs.declared.types.HeapType.{HeapType}
use Rattle.resolving.specs.Brought.{held_listed}
use Rattle.resolving.specs.Counts.{structs_of}
use Rattle.resolving.specs.Types.{type_held}

-- the types of the fields that own a block, in order
abbrev pub fields_held : ProgramText → List Field → List HeapType
fields_held p fields = flat_map (λ f. held_listed (type_held p f.ty)) fields

-- the types of the owning fields of each struct of a program; the number of a struct is its index here
abbrev pub structs_told : ProgramText → List (List HeapType)
structs_told p = map (λ s. fields_held p s.fields) (structs_of p.items)

-- how many owning fields are before the first field of this name in a struct
abbrev pub owning_before : ProgramText → Span → Numbered StructTree → Option ℕ
owning_before p field s = option_map (λ k. length (fields_held p (take k s.1.fields)))
    (first_among p.text (map (λ f. f.name) s.1.fields) field)

-- the number of a field of a variable of this type, among the owning ones
abbrev pub field_number : ProgramText → names.ValueType.ValueType → Span → Option ℕ
field_number p (name_type.Pointer n) field = option_and_then (owning_before p field) (item_at as_struct p n)
field_number p _ field = None
