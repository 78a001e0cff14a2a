-- The names that could be meant by one that nothing declares.
use Rattle.std.specs.Prelude.{ℕ, List, [], ◌∷◌, ◌++◌, map, take, reverse, find, Option, None, Some, option_and_then, slice_get}
use Rattle.std.specs.List.{flat_map}
use Rattle.std.specs.Option.{option_map_or}
use Rattle.source.specs.declared.place.Place.{Place}
use Rattle.source.specs.declared.token.Span.{Span}
use Rattle.tree.specs.Trees.{ItemTree, DefinitionTree, ContractTree, StructTree, ClassTree, MethodTree, defined_name}
use Rattle.declarations.specs.Declarations.{messages_of, states_of, names_of_messages, names_of_states}
use Rattle.declarations.specs.Program.{ProgramText, as_contract, as_struct, as_class, class_named}
use Rattle.declarations.specs.declared.mistake.NameSort.{NameSort}
use Rattle.declarations.specs.declared.mistake.NameSort.TheVariants as sort
use Rattle.nearest.specs.Locals.{is_before, method_names}

-- the item around a place: the last that is named before it
abbrev pub item_around : ProgramText → Place → Option ItemTree
item_around p q = find (λ i. is_before (defined_name i.definition).place q) (reverse p.items)

-- the item of this number, which counts the items before it, or without a number the one around a place
abbrev pub item_meant : ProgramText → Place → Option ℕ → Option ItemTree
item_meant p q None = item_around p q
item_meant p q (Some n) = slice_get p.items n

abbrev pub contract_meant : ProgramText → Place → Option ℕ → Option ContractTree
contract_meant p q n = option_and_then (λ i. as_contract i.definition) (item_meant p q n)

abbrev pub struct_meant : ProgramText → Place → Option ℕ → Option StructTree
struct_meant p q n = option_and_then (λ i. as_struct i.definition) (item_meant p q n)

-- the class of this name, or without a name the one around a place
abbrev pub class_meant : ProgramText → Place → Option Span → Option ClassTree
class_meant p q None = option_and_then (λ i. as_class i.definition) (item_around p q)
class_meant p q (Some name) = option_and_then (λ c. Some c.1) (class_named p name)

-- the method around a place: the last of its class that is named before it
abbrev pub method_around : ProgramText → Place → Option MethodTree
method_around p q = option_and_then (λ c. find (λ m. is_before m.name.place q) (reverse c.methods)) (class_meant p q None)

-- The `count` variables in scope at a place. Within a declaration, its own name is not among them. If a name
-- is declared twice, the last may be left out.
abbrev pub variables_at : ProgramText → Place → ℕ → List Span
variables_at p q count = take count (option_map_or (method_names q) (method_around p q) [])

-- the names of the items that are contracts, of those that are structs, and of those that are classes
abbrev pub contract_name : DefinitionTree → List Span
contract_name d = option_map_or (λ c. c.name ∷ []) (as_contract d) []

abbrev pub struct_name : DefinitionTree → List Span
struct_name d = option_map_or (λ s. s.name ∷ []) (as_struct d) []

abbrev pub class_name : DefinitionTree → List Span
class_name d = option_map_or (λ c. c.name ∷ []) (as_class d) []

-- the names of a sort that are declared for a place
abbrev pub candidates : ProgramText → Place → NameSort → List Span
candidates p q (sort.Variable count) = variables_at p q count
candidates p q (sort.Front count) = variables_at p q count ++ flat_map (λ i. class_name i.definition) p.items
candidates p q sort.Contract = flat_map (λ i. contract_name i.definition) p.items
candidates p q sort.Struct = flat_map (λ i. struct_name i.definition) p.items
candidates p q (sort.Method class) = option_map_or (λ c. map (λ m. m.name) c.methods) (class_meant p q class) []
candidates p q (sort.State n) = option_map_or (λ c. names_of_states (states_of c)) (contract_meant p q n) []
candidates p q (sort.Message n) = option_map_or (λ c. names_of_messages (messages_of c)) (contract_meant p q n) []
candidates p q (sort.Sent n) = option_map_or (λ c. names_of_messages (messages_of c)) (contract_meant p q (Some n)) []
candidates p q (sort.Field n) = option_map_or (λ s. map (λ f. f.name) s.fields) (struct_meant p q (Some n)) []
candidates p q sort.Length = []
