-- The variables in scope at a place of a program without mistakes in names and types.
use Rattle.std.proofs.Common.{◌≡◌, ℕ, ◌<◌, ◌≤◌, false, List, [], ◌∷◌, ◌++◌, length, map}
use Rattle.std.specs.Option.{option_map_or}
use Rattle.std.specs.Prelude.{Option, None, Some, option_map, slice_get, IfSome, IsSomeAnd}
use Rattle.source.specs.declared.token.Span.{Span}
use Rattle.tree.specs.Trees.{ClassTree, MethodTree, contracts_of}
use Rattle.tree.specs.declared.class.Parameter.{Parameter}
use Rattle.tree.specs.declared.types as tree
use Rattle.names.specs.Expressions.{InScope}
use Rattle.names.specs.Findings.{program_mistakes}
use Rattle.declarations.specs.Types.{is_block, type_unknown}
use Rattle.declarations.specs.Program.{ProgramText, as_class, as_contract, as_struct, item_at}
use Rattle.declarations.specs.Resolution.{resolved_contracts}
use Rattle.names.specs.Variables as names
use Rattle.declarations.specs.declared.value_type as declared
use Rattle.declarations.specs.declared.value_type.ValueType.TheVariants as ty
use Rattle.program.specs.Methods.{VariableModel}
use Rattle.program.specs.declared.types.HeapType.{HeapType}
use Rattle.program.specs.declared.method.Role.{Role}
use Rattle.program.specs.declared.method.Role.TheVariants as role
use Rattle.program.specs.declared.number.VarId.{VarId}
use Rattle.resolving.specs.Brought.{messages_told}
use Rattle.resolving.specs.Fields.{structs_told}
use Rattle.resolving.specs.Types.{heap_type, result_held, type_held}
use Rattle.resolving.specs.Locals as locals
use Rattle.resolving.specs.Locals.{Local, LocalFrame, number_of}
use Rattle.resolving.specs.Callees.{NumberedMethod}
use Rattle.resolving.specs.Methods.{methods_told, method_told, role_of}
use Rattle.resolving.specs.Staying.{Staying}
use Rattle.program.specs.Lists.{Each}
use Rattle.program.specs.Scopes as scopes
use Rattle.program.specs.Scopes.{LeadsOut, AreNested, IsInScope}
use Rattle.program.specs.declared.limits.TheConstants.{MOST_VARIABLES}
use Rattle.program.specs.WellFormed.{Setting}

-- a type whose names are declared
abbrev pub IsKnown : ProgramText → declared.ValueType.ValueType → Type 0
IsKnown p (ty.Scalar s) = Unit {0}
IsKnown p (ty.Array element) = Unit {0}
IsKnown p (ty.Pointer n) = IsSomeAnd (item_at as_struct p n) (λ s. Unit {0})
IsKnown p (ty.Endpoint side n) = IsSomeAnd (item_at as_contract p n) (λ c. Unit {0})
IsKnown p ty.Missing = ⊥
IsKnown p ty.Unknown = ⊥

-- what a variable of this type holds, in some state
pub record IsHeld (p : ProgramText) (k : declared.ValueType.ValueType) (held : HeapType) : Type 0 where
  pub state : Option Span
  pub is : heap_type p k state ≡ Some held

-- what a variable of this type holds, if it is of the exchange heap
abbrev pub IsHeldAs : ProgramText → declared.ValueType.ValueType → Option HeapType → Type 0
IsHeldAs p k None = is_block k ≡ false
IsHeldAs p k (Some held) = IsHeld p k held

-- a variable in scope has a number if it is of the exchange heap; the method's variable of that number holds what the
-- type says
abbrev pub IsNumbered : ProgramText → List VariableModel → declared.ValueType.ValueType → Option ℕ → Type 0
IsNumbered p vs k None = is_block k ≡ false
IsNumbered p vs k (Some n) = IsSomeAnd (slice_get vs n) (λ v. IsHeld p k v.ty)

-- the variable of this number is in scope, if this one is the last
abbrev pub IsInside : List VariableModel → Option VarId → Option ℕ → Type 0
IsInside vs last None = Unit {0}
IsInside vs last (Some n) = IsInScope vs last (number_of n)

pub record Stands (p : ProgramText) (vs : List VariableModel) (last : Option VarId) (l : Local) : Type 0 where
  pub known : IsKnown p l.ty
  pub numbered : IsNumbered p vs l.ty l.number
  pub inside : IsInside vs last l.number

-- a variable in scope as its name and type
abbrev pub named : Local → names.ScopeVariable
named l = record { name = l.name; ty = l.ty }

-- the last variable in scope
abbrev pub last_of : LocalFrame → Option VarId
last_of f = option_map number_of f.last

-- The variables of a frame are those in scope, and `Stands` holds for each. Those of the exchange heap are counted,
-- and are within their limit.
pub record AreStanding (p : ProgramText) (vs : List VariableModel) (f : LocalFrame) (g : names.NameFrame) : Type 0 where
  pub same : map named f.locals ≡ g.variables
  pub locals : Each (Stands p vs (last_of f)) f.locals
  pub last : IfSome f.last (λ n. n < length f.variables)
  pub ends : LeadsOut vs (last_of f) None
  pub counted : g.heap ≡ length f.variables
  pub few : length f.variables ≤ MOST_VARIABLES

-- a variable that is no parameter, and holds what some type says
pub record IsLocal (p : ProgramText) (v : VariableModel) : Type 0 where
  pub is : v.role ≡ role.Local
  pub ty : declared.ValueType.ValueType
  pub held : IsHeld p ty v.ty

-- the first frame's variables, and others after them that are no parameters
pub record Grows (p : ProgramText) (f g : LocalFrame) : Type 0 where
  pub more : List VariableModel
  pub is : g.variables ≡ f.variables ++ more
  pub local : Each (IsLocal p) more

-- the method's variables begin with those of the frame
pub record Within (vs : List VariableModel) (f : LocalFrame) : Type 0 where
  pub rest : List VariableModel
  pub is : vs ≡ f.variables ++ rest

-- the last variable in scope, and what stays in scope at a break and at a continue, which is outside it
pub record AreStaying (s : Setting) (f : LocalFrame) (stays : Staying) : Type 0 where
  pub scope : s.scope ≡ last_of f
  pub break_is : s.at_break ≡ option_map number_of stays.at_break
  pub continue_is : s.at_continue ≡ option_map number_of stays.at_continue
  pub at_break : LeadsOut s.variables (last_of f) (option_map number_of stays.at_break)
  pub at_continue : LeadsOut s.variables (last_of f) (option_map number_of stays.at_continue)

-- The surroundings of a statement: a method with this result, of the class that is the item at this index, in a
-- program without mistakes in names and types.
pub record Around (p : ProgramText) (c : ClassTree) (class : ℕ) (result : Option tree.Type.Type) (s : Setting) : Type 0 where
  pub clean : program_mistakes p ≡ []
  pub class_is : item_at as_class p class ≡ Some (class, c)
  pub contracts_are : s.program.contracts ≡ resolved_contracts p.text (contracts_of p.items)
  pub messages_are : s.program.messages ≡ messages_told p
  pub structs_are : s.program.structs ≡ structs_told p
  pub methods_are : s.program.methods ≡ methods_told p
  pub result_is : s.result ≡ result_held p result
  pub result_known : option_map_or (type_unknown p) result [] ≡ []
  pub nested : AreNested s.variables

-- a variable of this name and type comes into scope
abbrev pub declares : List ℕ → Span → declared.ValueType.ValueType → Option HeapType → Role → LocalFrame → LocalFrame
declares text name ty held role f = locals.with_declaration text (record { name = name; ty = ty; held = held; role = role }) f

-- what a frame brings into scope
abbrev pub scope_of : ProgramText → names.NameFrame → InScope
scope_of p g = record { program = p; variables = g.variables }

-- a part of a method that is well formed, and the frame after it, in which variables have come into scope
pub record Goes (p : ProgramText) (vs : List VariableModel) (X : Type 0) (f after : LocalFrame) (behind : names.NameFrame) : Type 0 where
  pub fits : X
  pub standing : AreStanding p vs after behind
  pub grows : scopes.Grows vs (last_of f) (last_of after)

-- the same for a part that leaves the scope as it is
pub record Passes (p : ProgramText) (vs : List VariableModel) (X : Type 0) (f after : LocalFrame) (behind : names.NameFrame) : Type 0 where
  pub fits : X
  pub standing : AreStanding p vs after behind
  pub same : last_of after ≡ last_of f

-- what a parameter holds, if it is of the exchange heap, and its role
abbrev pub heading : ProgramText → Parameter → List (HeapType × Role)
heading p x = option_map_or (λ k. (k, role_of x) ∷ []) (type_held p x.ty) []

-- a method of a class, which has this number in the program
pub record IsMethod (p : ProgramText) (m : MethodTree) (number : ℕ) : Type 0 where
  pub class : ℕ
  pub tree : ClassTree
  pub there : item_at as_class p class ≡ Some (class, tree)
  pub index : ℕ
  pub at : slice_get tree.methods index ≡ Some m
  pub told : slice_get (methods_told p) number ≡ Some (method_told p class m)

-- a look-up returns this method, with its number
pub record Answers (p : ProgramText) (o : Option NumberedMethod) (m : MethodTree) : Type 0 where
  pub number : ℕ
  pub is : o ≡ Some (record { number = number; method = m })
  pub method : IsMethod p m number
