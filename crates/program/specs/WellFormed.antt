-- Parameters, owning fields, and methods in which each number is in range.
use Rattle.std.specs.Prelude.{◌≡◌, ◌≤◌, ◌<◌, ℕ, ◌==◌, Bool, true, false, ◌&&◌, not, List, [], ◌∷◌, length, map, Option, None, Some}
use Rattle.std.specs.Prelude.{slice_get, IfSome, IsSomeAnd}
use Rattle.std.specs.List.{filter}
use Rattle.std.specs.Option.{option_map_or}
use Rattle.program.specs.Types.{same_scalar, same_side}
use Rattle.program.specs.Parts.{StateModel, MessageModel, ContractModel}
use Rattle.program.specs.declared.number.MessageId.{MessageId}
use Rattle.program.specs.declared.number.StateId.{StateId}
use Rattle.program.specs.Methods.{MethodModel, VariableModel}
use Rattle.program.specs.Programs.{ProgramModel}
use Rattle.program.specs.Statements.{CallModel, NewModel, SendModel, StatementModel, Simple, New, Call, Start, Send}
use Rattle.program.specs.Statements.{Block, If, While, Switch}
use Rattle.program.specs.Statements.{StatementsModel, NoStatement, MoreStatements, BlockModel, Braces, TestModel, Test}
use Rattle.program.specs.Statements.{OthersModel, NoOther, Else, ElseIf, CaseModel, Case, CasesModel, NoCase, MoreCases}
use Rattle.program.specs.declared.call.Argument.{Argument}
use Rattle.program.specs.declared.types.HeapType.{HeapType}
use Rattle.program.specs.declared.types.HeapType.TheVariants.{Struct, Array, Endpoint}
use Rattle.program.specs.declared.method.Role.{Role}
use Rattle.program.specs.declared.method.Role.TheVariants.{Lent, Claimed, Local}
use Rattle.program.specs.declared.number.VarId.{VarId}
use Rattle.program.specs.declared.statement.Action.{Action}
use Rattle.program.specs.declared.statement.Action.TheVariants as does
use Rattle.program.specs.declared.statement.Awaited.{Awaited}
use Rattle.program.specs.declared.statement.Awaited.TheVariants.{Message, Closed}
use Rattle.program.specs.declared.statement.Channel.{Channel}
use Rattle.program.specs.declared.statement.Effect.{Effect}
use Rattle.program.specs.declared.statement.Effect.TheVariants as effects
use Rattle.program.specs.declared.statement.Exchange.{Exchange}
use Rattle.program.specs.declared.statement.Mention.{Mention}
use Rattle.program.specs.declared.limits.TheConstants.{MOST_FIELDS, MOST_VARIABLES}
use Rattle.program.specs.Lists.{Each, is_among}
use Rattle.program.specs.Scopes.{AreNested, GoesBack, Grows, InTurn, IsInScope}

-- whether a variable is a parameter
abbrev pub is_parameter : Role → Bool
is_parameter Lent = true
is_parameter Claimed = true
is_parameter Local = false

abbrev pub is_claimed : Role → Bool
is_claimed Lent = false
is_claimed Claimed = true
is_claimed Local = false

-- the parameters of a method that are of the exchange heap
abbrev pub parameters : MethodModel → List VariableModel
parameters m = filter (λ v. is_parameter v.role) m.variables

-- whether two types are the same, apart from the states of endpoints
abbrev pub same_type : HeapType → HeapType → Bool
same_type (Struct m) (Struct n) = m.0 == n.0
same_type (Array s) (Array t) = same_scalar s t
same_type (Endpoint m s p) (Endpoint n t q) = (m.0 == n.0) && same_side s t
same_type _ _ = false

-- whether the types are those of the two ends of a channel of this contract
abbrev pub are_ends : ℕ → HeapType → HeapType → Bool
are_ends contract (Endpoint m s p) (Endpoint n t q) = (m.0 == contract) && ((n.0 == contract) && not (same_side s t))
are_ends contract _ _ = false

-- the contract has a state, or a message, with this number
pub record IsStateOf (c : ContractModel) (id : StateId) : Type 0 where
  pub index : ℕ
  pub state : StateModel
  pub there : slice_get c.parts.states index ≡ Some state
  pub is : state.id ≡ id

pub record IsMessageOf (c : ContractModel) (id : MessageId) : Type 0 where
  pub index : ℕ
  pub message : MessageModel
  pub there : slice_get c.parts.messages index ≡ Some message
  pub is : message.id ≡ id

-- The contract and the state in a type exist. The number of a struct is not checked.
abbrev pub IsType : List ContractModel → HeapType → Type 0
IsType contracts (Struct n) = Unit {0}
IsType contracts (Array element) = Unit {0}
IsType contracts (Endpoint contract side state) = IsSomeAnd (slice_get contracts contract.0) (λ c. IsStateOf c state)

-- the contract of an endpoint
abbrev pub contract_held : List ContractModel → HeapType → Option ContractModel
contract_held contracts (Endpoint contract side state) = slice_get contracts contract.0
contract_held contracts _ = None

-- whether it is an end of a channel
abbrev pub is_end : HeapType → Bool
is_end (Endpoint contract side state) = true
is_end _ = false

-- the types of the owning fields of a block: for a struct in order, for anything else none
abbrev pub field_types : (structs : List (List HeapType)) → HeapType → List HeapType
field_types structs (Struct n) = option_map_or (λ types. types) (slice_get structs n.0) []
field_types structs (Array element) = []
field_types structs (Endpoint contract side state) = []

-- The setting of a statement: the program, the variables and the result of its method, the last variable in scope,
-- and the last one that stays in scope at a `break` and at a `continue`.
pub record Setting : Type 0 where
  pub program : ProgramModel
  pub variables : List VariableModel
  pub result : Option HeapType
  pub scope : Option VarId
  pub at_break : Option VarId
  pub at_continue : Option VarId

-- the setting with this variable as the last in scope
abbrev pub with_last : Setting → Option VarId → Setting
with_last s scope = record s { scope = scope }

-- the setting inside a switch
abbrev pub in_switch : Setting → Setting
in_switch s = record s { at_break = s.scope }

-- the setting inside a loop
abbrev pub in_loop : Setting → Setting
in_loop s = record s { at_break = s.scope; at_continue = s.scope }

-- the endpoints of cases, and those of the cases that wait for the close
abbrev pub endpoints : CasesModel → List ℕ
endpoints NoCase = []
endpoints (MoreCases (Case endpoint awaited targets body) cases) = endpoint.variable.0 ∷ endpoints cases

abbrev pub closes : CasesModel → List ℕ
closes NoCase = []
closes (MoreCases (Case endpoint (Message id) targets body) cases) = closes cases
closes (MoreCases (Case endpoint Closed targets body) cases) = endpoint.variable.0 ∷ closes cases

module _ (s : Setting) where
  -- the method has a variable with this number
  abbrev pub IsVariable : VarId → Type 0
  IsVariable v = v.0 < length s.variables

  abbrev pub IsMention : Mention → Type 0
  IsMention m = IsVariable m.variable

  abbrev pub IsIn : VarId → Type 0
  IsIn v = IsInScope s.variables s.scope v

  -- the variable has this type
  abbrev pub Holds : HeapType → VarId → Type 0
  Holds k v = IsSomeAnd (slice_get s.variables v.0) (λ x. same_type x.ty k ≡ true)

  -- one variable for each type, of that type
  abbrev pub HoldAll : List HeapType → List VarId → Type 0
  HoldAll [] [] = Unit {0}
  HoldAll [] (v ∷ vs) = ⊥
  HoldAll (k ∷ types) [] = ⊥
  HoldAll (k ∷ types) (v ∷ vs) = Holds k v × HoldAll types vs

  -- the variable is an endpoint, and its contract satisfies `P`
  abbrev pub IsEnd : (ContractModel → Type 0) → Mention → Type 0
  IsEnd P m = IsSomeAnd (slice_get s.variables m.variable.0) (λ v. IsSomeAnd (contract_held s.program.contracts v.ty) P)

  -- one argument for each parameter, of its type, and claimed exactly if the parameter is
  abbrev pub AreGiven : List VariableModel → List Argument → Type 0
  AreGiven [] [] = Unit {0}
  AreGiven [] (a ∷ given) = ⊥
  AreGiven (p ∷ params) [] = ⊥
  AreGiven (p ∷ params) (a ∷ given) = (Holds p.ty a.mention.variable × (a.claimed ≡ is_claimed p.role)) × AreGiven params given

  -- there is a variable exactly if a block is given, and it has the type of the block
  abbrev pub IsTaken : Option HeapType → Option Mention → Type 0
  IsTaken None None = Unit {0}
  IsTaken None (Some m) = ⊥
  IsTaken (Some k) None = ⊥
  IsTaken (Some k) (Some m) = Holds k m.variable

  -- the same, and the variable is in scope
  abbrev pub IsTarget : Option HeapType → Option Mention → Type 0
  IsTarget result target = IsTaken result target × IfSome target (λ m. IsIn m.variable)

  -- a well-formed call of this method
  pub record IsCallOf (c : CallModel) (m : MethodModel) : Type 0 where
    pub reads : Each IsMention c.reads
    pub arguments : AreGiven (parameters m) c.arguments
    pub target : IsTarget m.result c.target
    pub behind : Each IsMention c.behind

  -- A started method gives nothing and claims its parameters.
  pub record IsStartOf (c : CallModel) (m : MethodModel) : Type 0 where
    pub call : IsCallOf c m
    pub void : m.gives ≡ false
    pub claimed : Each (λ v. is_claimed v.role ≡ true) (parameters m)

  pub record IsSend (x : SendModel) : Type 0 where
    pub reads : Each IsMention x.reads
    pub endpoint : IsEnd (λ c. IsMessageOf c x.message) x.endpoint
    pub payloads : IsSomeAnd (slice_get s.program.messages x.message.0) (λ types. HoldAll types (map (λ m. m.variable) x.payloads))

  abbrev pub IsChannel : Channel → Type 0
  IsChannel c = IsSomeAnd (slice_get s.variables c.first.variable.0) (λ v. IsSomeAnd (slice_get s.variables c.second.variable.0)
      (λ w. are_ends c.contract.0 v.ty w.ty ≡ true))

  -- The target of a new block is in scope and is not an endpoint, and each owning field is given a variable of its
  -- type.
  pub record IsNew (n : NewModel) : Type 0 where
    pub reads : Each IsMention n.reads
    pub in_scope : IsIn n.target.variable
    pub taken : IsSomeAnd (slice_get s.variables n.target.variable.0) (λ x. (is_end x.ty ≡ false)
        × HoldAll (field_types s.program.structs x.ty) (map (λ m. m.variable) n.arguments))

  -- the given variable is in scope and has the type of the owning field, which is in the holder's block
  abbrev pub IsExchange : Exchange → Type 0
  IsExchange e = IsIn e.given.variable × IsSomeAnd (slice_get s.variables e.holder.variable.0)
      (λ v. IsSomeAnd (slice_get (field_types s.program.structs v.ty) e.field) (λ k. Holds k e.given.variable))

  -- what is assigned is in scope
  abbrev pub IsAction : Action → Type 0
  IsAction (does.Use m) = IsMention m
  IsAction (does.Move target source) = IsIn target.variable
      × IsSomeAnd (slice_get s.variables target.variable.0) (λ v. Holds v.ty source.variable)
  IsAction (does.Delete m) = IsMention m
  IsAction (does.Exchange e) = IsExchange e
  IsAction (does.NewChannel c) = (IsIn c.first.variable × IsIn c.second.variable) × IsChannel c

  -- Variables that a `break` or a `continue` leaves go out of scope; a `return` records what is in scope.
  abbrev pub IsEffect : Effect → Type 0
  IsEffect effects.Nothing = Unit {0}
  IsEffect (effects.Act action) = IsAction action
  IsEffect (effects.Break f) = GoesBack s.scope s.at_break f
  IsEffect (effects.Continue f) = GoesBack s.scope s.at_continue f
  IsEffect (effects.Return place value scope) = IsTaken s.result value × (scope ≡ s.scope)

  abbrev pub IsAwaited : Awaited → ContractModel → Type 0
  IsAwaited (Message id) c = IsMessageOf c id
  IsAwaited Closed c = Unit {0}

  -- a case binds a variable for each block that its message brings, of its type; a close brings nothing
  abbrev pub IsBrought : Awaited → List VarId → Type 0
  IsBrought (Message id) targets = IsSomeAnd (slice_get s.program.messages id.0) (λ types. HoldAll types targets)
  IsBrought Closed targets = targets ≡ []

abbrev mutual
  -- a well-formed statement
  pub IsStatement : Setting → StatementModel → Type 0
  IsStatement s (Simple reads effect) = Each (IsMention s) reads × IsEffect s effect
  IsStatement s (New n) = IsNew s n
  IsStatement s (Call c) = IsSomeAnd (slice_get s.program.methods c.method.0) (IsCallOf s c)
  IsStatement s (Start c) = IsSomeAnd (slice_get s.program.methods c.method.0) (IsStartOf s c)
  IsStatement s (Send x) = IsSend s x
  IsStatement s (Block b) = IsBlock s b
  IsStatement s (If first others) = IsTest s first × AreOthers s others
  IsStatement s (While test) = IsTest (in_loop s) test
  -- each endpoint of a switch has a case for its close
  IsStatement s (Switch place cases) = Each (λ e. is_among (closes cases) e ≡ true) (endpoints cases) × AreCases (in_switch s) cases

  -- Statements in order, and the last variable in scope after them. Declared variables come into scope between them.
  pub AreStatements : Setting → StatementsModel → (behind : Option VarId) → Type 0
  AreStatements s NoStatement behind = Grows s.variables s.scope behind
  AreStatements s (MoreStatements x xs) behind =
      (here : Option VarId) × (Grows s.variables s.scope here
      × (IsStatement (with_last s here) x × AreStatements (with_last s here) xs behind))

  -- Variables declared in a block go out of scope after it.
  pub IsBlock : Setting → BlockModel → Type 0
  IsBlock s (Braces statements forget) = (behind : Option VarId) × (AreStatements s statements behind × GoesBack behind s.scope forget)

  pub IsTest : Setting → TestModel → Type 0
  IsTest s (Test place reads ways body) = Each (IsMention s) reads × IsBlock s body

  pub AreOthers : Setting → OthersModel → Type 0
  AreOthers s NoOther = Unit {0}
  AreOthers s (Else b) = IsBlock s b
  AreOthers s (ElseIf t others) = IsTest s t × AreOthers s others

  -- The variables that a case binds come into scope before its statements and go out of scope after them.
  pub IsCase : Setting → CaseModel → Type 0
  IsCase s (Case endpoint awaited targets (Braces statements forget)) =
      (IsEnd s (IsAwaited s awaited) endpoint × IsBrought s awaited targets)
      × ((inner : Option VarId) × (behind : Option VarId) × (InTurn s.variables s.scope targets inner
      × (AreStatements (with_last s inner) statements behind × GoesBack behind s.scope forget)))

  pub AreCases : Setting → CasesModel → Type 0
  AreCases s NoCase = Unit {0}
  AreCases s (MoreCases c cases) = IsCase s c × AreCases s cases

-- the setting of the first statement of a method; `begins` is the last variable in scope, which a `break` and a
-- `continue` leave in scope
abbrev pub setting : ProgramModel → MethodModel → (begins : Option VarId) → Setting
setting p m begins = record {
  program = p;
  variables = m.variables;
  result = m.result;
  scope = begins;
  at_break = begins;
  at_continue = begins;
}

-- a well-formed method of a program
pub record IsWellFormed (p : ProgramModel) (m : MethodModel) : Type 0 where
  pub result : IfSome m.result (IsType p.contracts)
  pub void : m.gives ≡ false → m.result ≡ None
  pub types : Each (λ v. IsType p.contracts v.ty) m.variables
  pub few : length m.variables ≤ MOST_VARIABLES
  pub nested : AreNested m.variables
  -- the last variable in scope when the method begins; all parameters are in scope then
  pub begins : Option VarId
  pub begins_with : IfSome begins (λ v. v.0 < length m.variables)
  pub parameters : (n : VarId) (v : VariableModel) → slice_get m.variables n.0 ≡ Some v → is_parameter v.role ≡ true
      → IsInScope m.variables begins n
  pub statements : AreStatements (setting p m begins) m.statements m.scope

-- the types of the owning fields of a struct, in order: they are within the limit, and their contracts and states exist
pub record AreFields (contracts : List ContractModel) (types : List HeapType) : Type 0 where
  pub few : length types ≤ MOST_FIELDS
  pub types_are : Each (IsType contracts) types

-- a well-formed program: the types that its messages bring, those of the owning fields of its structs, and its methods
pub record AreWellFormed (p : ProgramModel) : Type 0 where
  pub messages_are : Each (Each (IsType p.contracts)) p.messages
  pub structs_are : Each (AreFields p.contracts) p.structs
  pub methods_are : Each (IsWellFormed p) p.methods
