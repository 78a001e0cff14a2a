-- The names of a program, as the code has them.
use Rattle.std.specs.Prelude.{◌≡◌, ℕ, List, [], ◌∷◌, map, Option, None, Some, option_map}
use Rattle.std.specs.BTreeMap.{get}
use Rattle.std.specs.List.{flat_map}
use Rattle.std.specs.Ordering.{nat_cmp}
use Rattle.tree.specs.declared.types.Type.TheVariants as type
use Rattle.tree.specs.Trees.{ItemTree, DefinitionTree, Contract, Struct, Class, ContractTree}
use Rattle.tree.specs.Trees.{StructTree, ClassTree, MethodTree, item_tree, method_tree}
use Rattle.declarations.specs.Declarations.{names_of_messages, names_of_states, messages_of, states_of}
use Rattle.declarations.specs.Types.{type_meant}
use Rattle.declarations.specs.Numbered.{names_in, indices_named}
use Rattle.declarations.specs.Outlines.{IsOutline}
use Rattle.declarations.specs.Program.{ProgramText, item_names}
use Rattle.tables.specs.Tables.{IsTable}
use Rattle.declarations.specs.Owning.{can_start, owning_fields}
use Rattle.tables.specs.Words.{words_at}
use Rattle.declarations.specs.declared.members.Declared.{Declared}
use Rattle.declarations.specs.declared.fields.Fields.{Fields}
use Rattle.declarations.specs.declared.members.ClassMethods.{ClassMethods}
use Rattle.declarations.specs.declared.members.Members.{Members}
use Rattle.declarations.specs.declared.members.Members.TheVariants as members
use Rattle.declarations.specs.declared.noted.Noted.{Noted}
use Rattle.declarations.specs.declared.noted.NotedTypes.{NotedTypes}
use Rattle.declarations.specs.declared.scope.Scope.{Scope}
use Rattle.declarations.specs.declared.starts.Callee.{Callee}

-- the outline of a contract, its tables, all of its states, and the indices of the named ones
pub record IsDeclared (text : List ℕ) (c : ContractTree) (d : Declared) : Type 0 where
  pub outline : IsOutline c d.outline
  pub messages : IsTable (words_at text (names_of_messages (messages_of c))) d.messages
  pub states : IsTable (words_at text (names_of_states (states_of c))) d.states
  pub all : d.counted.all.items ≡ flat_map names_in (states_of c)
  pub named : d.counted.named.items ≡ indices_named (states_of c)

-- the fields of a struct, its owning fields, and their table
pub record AreFieldsOf (text : List ℕ) (s : StructTree) (f : Fields) : Type 0 where
  pub list : f.list.now ≡ s.fields
  pub owning : f.owning.items ≡ owning_fields s
  pub table : IsTable (words_at text (map (λ x. x.name) s.fields)) f.table

-- the methods of a class, whether each can be started, and their table
pub record AreMethods (text : List ℕ) (c : ClassTree) (m : ClassMethods) : Type 0 where
  pub list : map method_tree m.list.now ≡ c.methods
  pub startable : m.startable.items ≡ map can_start c.methods
  pub table : IsTable (words_at text (map (λ x. x.name) c.methods)) m.table

-- what a definition declares
abbrev pub AreMembers : List ℕ → DefinitionTree → Members → Type 0
AreMembers text (Contract c) (members.Contract d) = IsDeclared text c d
AreMembers text (Struct s) (members.Struct f) = AreFieldsOf text s f
AreMembers text (Class c) (members.Class m) = AreMethods text c m
AreMembers text _ _ = ⊥

-- the result of a look-up of a method: the method, and whether it can be started
pub record IsCallee (m : Option MethodTree) (callee : Option Callee) : Type 0 where
  pub method : option_map (λ c. method_tree c.method.now) callee ≡ m
  pub startable : option_map (λ c. c.startable) callee ≡ option_map can_start m

-- the members of a contract, of a struct, of a class
abbrev pub as_declared : Members → Option Declared
as_declared (members.Contract d) = Some d
as_declared (members.Struct f) = None
as_declared (members.Class m) = None

abbrev pub as_fields : Members → Option Fields
as_fields (members.Contract d) = None
as_fields (members.Struct f) = Some f
as_fields (members.Class m) = None

abbrev pub as_methods : Members → Option ClassMethods
as_methods (members.Contract d) = None
as_methods (members.Struct f) = None
as_methods (members.Class m) = Some m

-- what these items declare, in order
abbrev pub AllMembers : List ℕ → List ItemTree → List Members → Type 0
AllMembers text [] [] = Unit {0}
AllMembers text [] (m ∷ ms) = ⊥
AllMembers text (i ∷ items) [] = ⊥
AllMembers text (i ∷ items) (m ∷ ms) = AreMembers text i.definition m × AllMembers text items ms

-- the declarations of a contract, if the members are those of one
abbrev pub declared_among : Members → List Declared
declared_among (members.Contract d) = d ∷ []
declared_among (members.Struct f) = []
declared_among (members.Class m) = []

-- what these contracts declare, in order
abbrev pub AreDeclared : List ℕ → List ContractTree → List Declared → Type 0
AreDeclared text [] [] = Unit {0}
AreDeclared text [] (d ∷ ds) = ⊥
AreDeclared text (c ∷ cs) [] = ⊥
AreDeclared text (c ∷ cs) (d ∷ ds) = IsDeclared text c d × AreDeclared text cs ds

-- each type that is noted is what the written one means
pub record AreNoted (p : ProgramText) (noted : NotedTypes) : Type 0 where
  pub types : (start : ℕ) (n : Noted) → get nat_cmp noted.first start ≡ Some n → n.ty ≡ type_meant p (type.Heap n.written)

-- the text and the items of a scope
abbrev pub program_of_scope : Scope → ProgramText
program_of_scope scope = record { text = scope.text.now; items = map item_tree scope.items.now }

-- it is the scope of this program
pub record IsScope (p : ProgramText) (scope : Scope) : Type 0 where
  pub text_is : scope.text.now ≡ p.text
  pub items_are : map item_tree scope.items.now ≡ p.items
  pub names : IsTable (words_at p.text (item_names p)) scope.names
  pub members : AllMembers p.text p.items scope.members.items
  pub noted : AreNoted p scope.noted

-- the result of a look-up of a contract: its index among the items, and what it declares
abbrev pub IsContract : List ℕ → Option (ℕ × ContractTree) → Option (ℕ × Declared) → Type 0
IsContract text None None = Unit {0}
IsContract text (Some c) (Some d) = (c.0 ≡ d.0) × IsDeclared text c.1 d.1
IsContract text _ _ = ⊥

-- the result of a look-up of a struct
abbrev pub IsStruct : List ℕ → Option (ℕ × StructTree) → Option (ℕ × Fields) → Type 0
IsStruct text None None = Unit {0}
IsStruct text (Some s) (Some f) = (s.0 ≡ f.0) × AreFieldsOf text s.1 f.1
IsStruct text _ _ = ⊥

-- the result of a look-up of a class
abbrev pub IsClass : List ℕ → Option (ℕ × ClassTree) → Option ClassMethods → Type 0
IsClass text None None = Unit {0}
IsClass text (Some c) (Some m) = AreMethods text c.1 m
IsClass text _ _ = ⊥
