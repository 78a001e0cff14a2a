-- The items of a text, found by name.
use Rattle.std.specs.Prelude.{ℕ, List, map, Option, None, Some, option_map, option_and_then, slice_get}
use Rattle.source.specs.declared.token.Span.{Span}
use Rattle.tree.specs.Trees.{ItemTree, DefinitionTree, Contract, Struct, Class, ContractTree, StructTree, ClassTree}
use Rattle.tree.specs.Trees.{defined_name, program_tree}
use Rattle.tree.specs.declared.item.Tree.{Tree}
use Rattle.declarations.specs.Declarations.{first_among}

-- a text and its items
pub record ProgramText : Type 0 where
  pub text : List ℕ
  pub items : List ItemTree

-- a text, and the items of its tree
abbrev pub program_of : List ℕ → Tree → ProgramText
program_of text tree = record { text = text; items = program_tree tree }

-- the contract that a definition is, if it is one
abbrev pub as_contract : DefinitionTree → Option ContractTree
as_contract (Contract c) = Some c
as_contract (Struct s) = None
as_contract (Class c) = None

-- the struct that a definition is, if it is one
abbrev pub as_struct : DefinitionTree → Option StructTree
as_struct (Contract c) = None
as_struct (Struct s) = Some s
as_struct (Class c) = None

-- the class that a definition is, if it is one
abbrev pub as_class : DefinitionTree → Option ClassTree
as_class (Contract c) = None
as_class (Struct s) = None
as_class (Class c) = Some c

-- the names of the items
abbrev pub item_names : ProgramText → List Span
item_names p = map (λ i. defined_name i.definition) p.items

-- an item of some kind, with its index among all items
abbrev pub Numbered : Type 0 → Type 0
Numbered X = ℕ × X

-- the item at this index, if it is of this kind
abbrev pub item_at : {X : Type 0} → (DefinitionTree → Option X) → ProgramText → ℕ → Option (Numbered X)
item_at ty p n = option_and_then (λ i. option_map (λ x. (n, x)) (ty i.definition)) (slice_get p.items n)

-- The item of this name, if it is of this kind. Contracts, structs and classes share their names:
-- only the first item of a name is found by it.
abbrev pub item_named : {X : Type 0} → (DefinitionTree → Option X) → ProgramText → Span → Option (Numbered X)
item_named ty p name = option_and_then (item_at ty p) (first_among p.text (item_names p) name)

-- the contract of this name
abbrev pub contract_named : ProgramText → Span → Option (Numbered ContractTree)
contract_named = item_named as_contract

-- the struct of this name
abbrev pub struct_named : ProgramText → Span → Option (Numbered StructTree)
struct_named = item_named as_struct

-- the class of this name
abbrev pub class_named : ProgramText → Span → Option (Numbered ClassTree)
class_named = item_named as_class
