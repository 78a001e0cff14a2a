-- The surroundings of a statement, as the code has them.
use Rattle.std.specs.Prelude.{◌≡◌, ◌≤◌, ℕ, List, [], ◌∷◌, map, length, Option, None, Some}
use Rattle.std.specs.List.{enumerate_from, flat_map}
use Rattle.tree.specs.Trees.{ItemTree, Contract, Struct, Class, contracts_of, item_tree, message_tree, method_tree}
use Rattle.tree.specs.Trees.{DefinitionTree}
use Rattle.tree.specs.declared.class.Field.{Field}
use Rattle.declarations.specs.Program.{ProgramText}
use Rattle.program.specs.Parts.{contract_model}
use Rattle.declarations.specs.Resolution.{resolved_contracts}
use Rattle.declarations.specs.Scopes.{IsScope}
use Rattle.program.specs.declared.types.HeapType.{HeapType}
use Rattle.program.specs.declared.limits.TheConstants.{MOST_METHODS}
use Rattle.resolving.specs.Callees as model
use Rattle.resolving.specs.Callees.{all_methods}
use Rattle.resolving.specs.Messages as messages
pub use Rattle.resolving.specs.Counts.{counts}
use Rattle.resolving.specs.Types.{type_held}
use Rattle.resolving.specs.declared.around.Around.{Around}
use Rattle.resolving.specs.declared.around.Directory.{Directory}
use Rattle.resolving.specs.declared.calls.NumberedMethod.{NumberedMethod}
use Rattle.resolving.specs.declared.messages.Meant.{Meant}

-- a text and these items
abbrev pub program_in : List ℕ → List ItemTree → ProgramText
program_in text items = record { text = text; items = items }

-- the index of a field, if it holds something of the exchange heap
abbrev pub index_listed : ℕ → Option HeapType → List ℕ
index_listed k None = []
index_listed k (Some held) = k ∷ []

-- the indices of the owning fields among these, in order
abbrev pub indices_held : ProgramText → List Field → List ℕ
indices_held p fields = flat_map (λ x. index_listed x.0 (type_held p x.1.ty)) (enumerate_from 0 fields)

-- those of a definition; none if it is no struct
abbrev pub indices_in : ProgramText → DefinitionTree → List ℕ
indices_in p (Contract c) = []
indices_in p (Struct s) = indices_held p s.fields
indices_in p (Class c) = []

abbrev pub owning_indices : ProgramText → ItemTree → List ℕ
owning_indices p i = indices_in p i.definition

-- the names of a program, its resolved contracts, and what is before each item
pub record IsDirectory (p : ProgramText) (t : Directory) : Type 0 where
  pub scope : IsScope p t.scope.now
  pub contracts : map contract_model t.resolved.now.contracts.items ≡ resolved_contracts p.text (contracts_of p.items)
  pub before : t.before.now ≡ counts p.items

-- the items of a program, the directory of its types, the indices of the owning fields of each item, and the index of a class
pub record IsAround (p : ProgramText) (class : ℕ) (a : Around) : Type 0 where
  pub directory : IsDirectory p a.directory
  pub items : map item_tree a.items.now ≡ p.items
  pub owning : map (λ x. x.items) a.owning.now ≡ map (owning_indices p) p.items
  pub class_is : a.class ≡ class
  pub few : length (all_methods p.items) ≤ MOST_METHODS

-- a method and its number, without memory
abbrev pub callee_model : NumberedMethod → model.NumberedMethod
callee_model c = record { number = c.id.0; method = method_tree c.method.now }

-- a message and its number, without memory
abbrev pub meant_model : Meant → messages.Meant
meant_model m = record { id = m.id; message = message_tree m.message.now }
