-- A lowered method fits: the operands of each instruction exist and have the right type, and each point has a scope.
-- What is in scope before an instruction is in scope after it, except what its Forget names; what an instruction
-- assigns is in scope after it.
use Rattle.std.specs.Prelude.{◌≡◌, ◌≢◌, ℕ, ◌⊎◌, Bool, true, false, List, [], map, Option, Some, None, IfSome, slice_get}
use Rattle.program.specs.Lists.{Each, is_among}
use Rattle.program.specs.Methods.{MethodModel, VariableModel}
use Rattle.program.specs.Parts.{ContractModel}
use Rattle.program.specs.Programs.{ProgramModel}
use Rattle.program.specs.WellFormed.{are_ends, field_types, is_end, is_parameter, parameters}
use Rattle.program.specs.declared.call.Argument.{Argument}
use Rattle.program.specs.declared.types.HeapType.{HeapType}
use Rattle.program.specs.declared.number.VarId.{VarId}
use Rattle.program.specs.declared.statement.Awaited.{Awaited}
use Rattle.program.specs.declared.statement.Awaited.TheVariants.{Message, Closed}
use Rattle.program.specs.declared.statement.Channel.{Channel}
use Rattle.program.specs.declared.statement.Exchange as stated
use Rattle.program.specs.declared.statement.Mention.{Mention}
use Rattle.flow.specs.Cases.{EntranceModel, case_for, first_mentions}
use Rattle.program.specs.declared.statement.Action.TheVariants.{Move, Exchange, NewChannel}
use Rattle.flow.specs.Graphs.{Instruction, Act, New, Send, Switch, Branch, Forget, Call, Start}
use Rattle.flow.specs.Graphs.{Return, Stop}
use Rattle.flow.specs.Lowering.{graph_of}
use Rattle.flow.specs.Within.{goes_on}
use Rattle.rules.specs.Endpoints.{payload_types}
use Rattle.rules.specs.Mentions.{is_lent}
use Rattle.rules.specs.Scopes.{declared_between}
use Rattle.sound.specs.Operands.{AreDistinct, AreArguments, AreClaims, AreOfTypes, IsEndVariable, IsOfType, IsTakenBy}

-- which variables are in scope at a point
abbrev pub ScopeAt : Type 0
ScopeAt = (point variable : ℕ) → Bool

-- what is in scope at one point is in scope at the other, or is among those that go
pub record KeepsScope (scope : ScopeAt) (from to : ℕ) (gone : List ℕ) : Type 0 where
  pub each : (v : ℕ) → scope from v ≡ true → (scope to v ≡ true) ⊎ (is_among gone v ≡ true)

module _ (p : ProgramModel) (m : MethodModel) (scope : ScopeAt) where
  -- a variable that a case binds comes into scope there, and is not lent
  pub record IsBoundAt (from to v : ℕ) : Type 0 where
    pub before : scope from v ≡ false
    pub after : scope to v ≡ true
    pub own : is_lent m v ≡ false

  -- a case binds a variable for each block that its message brings, no two of them the same
  abbrev pub AreBrought : ℕ → Awaited → List VarId → ℕ → Type 0
  AreBrought from Closed bound to = Unit {0}
  AreBrought from (Message id) bound to =
      AreOfTypes m.variables (payload_types p id.0) (map (λ v. v.0) bound)
      × (AreDistinct (map (λ v. v.0) bound) × Each (λ v. IsBoundAt from to v.0) bound)

  -- a case of a switch at a point
  pub record IsEntrance (point : ℕ) (c : EntranceModel) : Type 0 where
    pub binds : AreBrought point c.awaited c.targets c.next
    pub keeps : KeepsScope scope point c.next []

  -- A switch: each of its endpoints is a variable of an endpoint and has a case for its close.
  pub record IsSwitch (point : ℕ) (cases : List EntranceModel) : Type 0 where
    pub each : Each (IsEntrance point) cases
    pub ends : Each (λ e. IsEndVariable m.variables e.variable.0) (first_mentions [] cases)
    pub closes : Each (λ e. case_for cases e.variable.0 None ≢ None) (first_mentions [] cases)

  -- a call: its arguments and its target fit the parameters and the result of the method that it calls
  pub record IsCallFit (point method : ℕ) (arguments : List Argument) (target : Option Mention) (next : ℕ) : Type 0 where
    pub callee : MethodModel
    pub there : slice_get p.methods method ≡ Some callee
    pub arguments_fit : AreArguments m.variables (parameters callee) arguments
    pub taken : IsTakenBy m.variables callee.result target
    pub in_scope : IfSome target (λ v. scope next v.variable.0 ≡ true)
    pub keeps : KeepsScope scope point next []

  -- A start: the method returns nothing and claims all that it is given.
  pub record IsStartFit (point method : ℕ) (arguments : List Argument) (next : ℕ) : Type 0 where
    pub callee : MethodModel
    pub there : slice_get p.methods method ≡ Some callee
    pub arguments_fit : AreArguments m.variables (parameters callee) arguments
    pub void : callee.result ≡ None
    pub claims : AreClaims arguments
    pub keeps : KeepsScope scope point next []

  -- A Return: its value fits the result of the method, and its scope names all that is in scope there.
  pub record IsReturnFit (point : ℕ) (value : Option Mention) (last : Option VarId) : Type 0 where
    pub given : IsTakenBy m.variables m.result value
    pub covers : (v : ℕ) → scope point v ≡ true → is_among (declared_between m None last) v ≡ true

  -- New: the variable is of no endpoint, and the arguments have the types of its owning fields.
  pub record IsNewFit (point v : ℕ) (arguments : List Mention) (next : ℕ) : Type 0 where
    pub variable : VariableModel
    pub there : slice_get m.variables v ≡ Some variable
    pub block : is_end variable.ty ≡ false
    pub types : AreOfTypes m.variables (field_types p.structs variable.ty) (map (λ x. x.variable.0) arguments)
    pub in_scope : scope next v ≡ true
    pub keeps : KeepsScope scope point next []

  -- Exchange: the block of the holder has such a field, and what is given has its type.
  pub record IsExchangeFit (point : ℕ) (e : stated.Exchange) (next : ℕ) : Type 0 where
    pub holder : VariableModel
    pub holder_there : slice_get m.variables e.holder.variable.0 ≡ Some holder
    pub ty : HeapType
    pub field_there : slice_get (field_types p.structs holder.ty) e.field ≡ Some ty
    pub given : IsOfType m.variables ty e.given.variable.0
    pub in_scope : scope next e.given.variable.0 ≡ true
    pub keeps : KeepsScope scope point next []

  -- NewChannel: the contract exists, and the two variables are for its two ends.
  pub record IsChannelFit (point : ℕ) (c : Channel) (next : ℕ) : Type 0 where
    pub contract : ContractModel
    pub contract_there : slice_get p.contracts c.contract.0 ≡ Some contract
    pub first : VariableModel
    pub second : VariableModel
    pub first_there : slice_get m.variables c.first.variable.0 ≡ Some first
    pub second_there : slice_get m.variables c.second.variable.0 ≡ Some second
    pub ends : are_ends c.contract.0 first.ty second.ty ≡ true
    pub first_scope : scope next c.first.variable.0 ≡ true
    pub second_scope : scope next c.second.variable.0 ≡ true
    pub keeps : KeepsScope scope point next []

  -- a Move: both variables have the same type, apart from states
  pub record IsMoveFit (point target source next : ℕ) : Type 0 where
    pub variable : VariableModel
    pub there : slice_get m.variables source ≡ Some variable
    pub ty : IsOfType m.variables variable.ty target
    pub in_scope : scope next target ≡ true
    pub keeps : KeepsScope scope point next []

  -- a Send: it uses an endpoint, and its payload has the types of the message
  pub record IsSendFit (point e message : ℕ) (payloads : List Mention) (next : ℕ) : Type 0 where
    pub endpoint : IsEndVariable m.variables e
    pub types : AreOfTypes m.variables (payload_types p message) (map (λ x. x.variable.0) payloads)
    pub keeps : KeepsScope scope point next []

  -- A Forget: it names what leaves the scope, and nothing of it is lent.
  pub record IsForgetFit (point : ℕ) (gone : List ℕ) (next : ℕ) : Type 0 where
    pub keeps : KeepsScope scope point next gone
    pub own : Each (λ v. is_lent m v ≡ false) gone

  -- an instruction at a point
  abbrev pub IsFit : ℕ → Instruction → Type 0
  IsFit point (Act (Exchange e) next) = IsExchangeFit point e next
  IsFit point (Act (NewChannel c) next) = IsChannelFit point c next
  IsFit point (Act (Move v w) next) = IsMoveFit point v.variable.0 w.variable.0 next
  IsFit point (Act action next) = KeepsScope scope point next []
  IsFit point (New v arguments next) = IsNewFit point v.variable.0 arguments next
  IsFit point (Send place e message payloads next) = IsSendFit point e.variable.0 message.0 payloads next
  IsFit point (Switch place cases) = IsSwitch point cases
  IsFit point (Branch place branches) = Each (λ to. KeepsScope scope point to []) (goes_on (Branch place branches))
  IsFit point (Forget f next) = IsForgetFit point (declared_between m f.outer (Some f.last)) next
  IsFit point (Call place method arguments target next) = IsCallFit point method.0 arguments target next
  IsFit point (Start place method arguments next) = IsStartFit point method.0 arguments next
  IsFit point (Return place value last) = IsReturnFit point value last
  IsFit point (Stop place) = Unit {0}

-- a method's graph under some scopes; its parameters are in scope at its first point
pub record IsGraphFit (p : ProgramModel) (m : MethodModel) : Type 0 where
  pub scope : ScopeAt
  pub begins : (v : ℕ) (x : VariableModel) → slice_get m.variables v ≡ Some x → is_parameter x.role ≡ true
      → scope (graph_of m).first v ≡ true
  pub fits : (point : ℕ) (i : Instruction) → slice_get (graph_of m).instructions point ≡ Some i → IsFit p m scope point i

-- all methods of a program
pub record AreGraphsFit (p : ProgramModel) : Type 0 where
  pub each : (n : ℕ) (m : MethodModel) → slice_get p.methods n ≡ Some m → IsGraphFit p m
