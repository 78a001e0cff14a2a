-- What the rule table looks up in a program: the edges along which its endpoints send and receive, what its messages and methods take,
-- and what a variable is declared to have.
use Rattle.std.specs.Prelude.{ℕ, ◌==◌, Bool, false, not, List, [], length, Option, Some, None, map, slice_get}
use Rattle.std.specs.Option.{option_and_then, option_map_or}
use Rattle.program.specs.Methods.{MethodModel}
use Rattle.program.specs.Programs.{ProgramModel}
use Rattle.program.specs.WellFormed.{field_types, parameters}
use Rattle.program.specs.declared.contract.Edge.{Edge}
use Rattle.program.specs.declared.types.HeapType.{HeapType}
use Rattle.program.specs.declared.types.HeapType.TheVariants.{Endpoint}
use Rattle.contracts.specs.Bounds.{sign_to}
use Rattle.contracts.specs.Leaving.{edges_from, name_among, sign_from}
use Rattle.rows.specs.declared.row.Leaf.{Leaf}
use Rattle.rows.specs.declared.row.Leaf.TheVariants.{Block, State}

-- the types of a message's parameters of the exchange heap
abbrev pub payload_types : ProgramModel → ℕ → List HeapType
payload_types p message = option_map_or (λ types. types) (slice_get p.messages message) []

-- the types of a method's parameters of the exchange heap
abbrev pub parameter_types : ProgramModel → ℕ → List HeapType
parameter_types p method = option_map_or (λ m. map (λ v. v.ty) (parameters m)) (slice_get p.methods method) []

-- the type of a method's result, if it is of the exchange heap
abbrev pub result_of : ProgramModel → ℕ → Option HeapType
result_of p method = option_and_then (λ m. m.result) (slice_get p.methods method)

-- the type of a variable of a method
abbrev pub type_of : MethodModel → ℕ → Option HeapType
type_of m variable = option_map_or (λ v. Some v.ty) (slice_get m.variables variable) None

-- the types of the owning fields of the block of a variable
abbrev pub fields_of : ProgramModel → MethodModel → (variable : ℕ) → List HeapType
fields_of p m variable = option_map_or (λ ty. field_types p.structs ty) (type_of m variable) []

-- the type of one of them
abbrev pub field_of : ProgramModel → MethodModel → (variable field : ℕ) → Option HeapType
field_of p m variable field = slice_get (fields_of p m variable) field

-- the edges of a contract
abbrev pub edges_of : ProgramModel → ℕ → List Edge
edges_of p contract = option_map_or (λ c. c.parts.edges) (slice_get p.contracts contract) []

-- the state in which a channel of the contract begins
abbrev pub first_state : ProgramModel → ℕ → ℕ
first_state p contract = option_map_or (λ c. c.parts.first.0) (slice_get p.contracts contract) 0

-- the edges along which an endpoint of this type sends in a state
abbrev pub edges_out : ProgramModel → Option HeapType → ℕ → List Edge
edges_out p (Some (Endpoint contract side state)) q = edges_from (edges_of p contract.0) (sign_from side) q
edges_out p _ q = []

-- whether there is such an edge
abbrev pub sends : ProgramModel → Option HeapType → ℕ → Bool
sends p ty q = not (length (edges_out p ty q) == 0)

-- the edges along which an endpoint of this type receives in a state
abbrev pub edges_in : ProgramModel → Option HeapType → ℕ → List Edge
edges_in p (Some (Endpoint contract side state)) q = edges_from (edges_of p contract.0) (sign_to side) q
edges_in p _ q = []

-- the name of a message of the contract of an endpoint of this type
abbrev pub message_name : ProgramModel → Option HeapType → ℕ → List ℕ
message_name p (Some (Endpoint contract side state)) message =
    option_map_or (λ c. name_among c.parts.messages message) (slice_get p.contracts contract.0) []
message_name p _ message = []

-- what a variable of this type has once it takes something: a struct or an array, or an endpoint in its declared state
abbrev pub declared_leaf : HeapType → Leaf
declared_leaf (Endpoint contract side state) = State state.0
declared_leaf _ = Block

-- whether a leaf is an endpoint in another state than that of this type; one that is cut off never is
abbrev pub is_wrong : HeapType → Leaf → Bool
is_wrong (Endpoint contract side state) (State q) = not (q == state.0)
is_wrong _ _ = false

-- the given function of the state, for an endpoint that is not cut off; otherwise the default
abbrev pub in_state : {X : Type 0} → Leaf → (ℕ → X) → X → X
in_state (State q) there other = there q
in_state _ there other = other
