-- The types of variables and expressions.
use Rattle.std.specs.Prelude.{ℕ, Bool, true, false, ◌==◌, ◌&&◌, ◌||◌, not, List, [], ◌∷◌, if◌then◌else◌, Option, None, Some}
use Rattle.source.specs.declared.place.Place.{Place}
use Rattle.source.specs.declared.token.Span.{Span}
use Rattle.program.specs.declared.types.Scalar.{Scalar}
use Rattle.program.specs.declared.types.Scalar.TheVariants as scalar
use Rattle.program.specs.declared.types.Side.{Side}
use Rattle.tree.specs.declared.contract.MessageParameter.{MessageParameter}
use Rattle.tree.specs.declared.types as type_nodes
use Rattle.tree.specs.declared.types.Type.TheVariants as type
use Rattle.tree.specs.declared.types.Heap.TheVariants as heap
use Rattle.tree.specs.Trees.{ContractTree}
use Rattle.declarations.specs.Declarations.{states_of, names_of_states, is_declared}
use Rattle.declarations.specs.declared.mistake.Mistake.{Mistake}
use Rattle.declarations.specs.declared.mistake.Mismatch.{Mismatch}
use Rattle.declarations.specs.declared.mistake.Mistake.TheVariants.{Unknown, WrongType}
use Rattle.declarations.specs.declared.mistake.NameSort.TheVariants as sort
use Rattle.declarations.specs.Program.{ProgramText, contract_named, struct_named}
use Rattle.program.specs.Types.{same_scalar, same_side}
use Rattle.declarations.specs.declared.value_type.ValueType.{ValueType}
use Rattle.declarations.specs.declared.value_type.ValueType.TheVariants as ty

-- whether a scalar type is a number: `int` and `byte` are
abbrev pub counts : Scalar → Bool
counts scalar.Int = true
counts scalar.Byte = true
counts scalar.Bool = false

-- whether a type is missing or unknown; nothing is asked of such a value
abbrev pub is_silent : ValueType → Bool
is_silent ty.Missing = true
is_silent ty.Unknown = true
is_silent _ = false

-- whether a type is unknown
abbrev pub is_unknown : ValueType → Bool
is_unknown ty.Unknown = true
is_unknown _ = false

-- whether a type is a number
abbrev pub is_number : ValueType → Bool
is_number (ty.Scalar s) = counts s
is_number _ = false

-- whether a type is `bool`
abbrev pub is_truth : ValueType → Bool
is_truth (ty.Scalar s) = not (counts s)
is_truth _ = false

-- whether a type is of the exchange heap
abbrev pub is_block : ValueType → Bool
is_block (ty.Pointer n) = true
is_block (ty.Array s) = true
is_block (ty.Endpoint s n) = true
is_block _ = false

-- whether two types are the same; `int` and `byte` count as one, except as elements of arrays; never for a missing or unknown type
abbrev pub alike : ValueType → ValueType → Bool
alike (ty.Scalar s) (ty.Scalar t) = if counts s then counts t else not (counts t)
alike (ty.Pointer m) (ty.Pointer n) = m == n
alike (ty.Array s) (ty.Array t) = same_scalar s t
alike (ty.Endpoint s m) (ty.Endpoint t n) = (m == n) && same_side s t
alike _ _ = false

-- whether a value of the first type may be given if the second is asked for
abbrev pub agree : ValueType → ValueType → Bool
agree given asked = is_silent given || (is_silent asked || alike given asked)

-- a wrong type at this place, unless the condition holds
abbrev pub unless : Bool → Place → Mismatch → List Mistake
unless well place mismatch = if well then [] else WrongType place mismatch ∷ []

-- the type of an endpoint; unknown if its contract or its state is not declared
abbrev pub endpoint_type : List ℕ → Option (ℕ × ContractTree) → Side → Option Span → ValueType
endpoint_type text None end state = ty.Unknown
endpoint_type text (Some c) end None = ty.Endpoint end c.0
endpoint_type text (Some c) end (Some state) = if is_declared text (names_of_states (states_of c.1)) state then ty.Endpoint end c.0
    else ty.Unknown

-- the type of a pointer; unknown if its struct is not declared
abbrev pub pointer_type : {X : Type 0} → Option (ℕ × X) → ValueType
pointer_type None = ty.Unknown
pointer_type (Some s) = ty.Pointer s.0

-- the type that a written type means
abbrev pub type_meant : ProgramText → type_nodes.Type.Type → ValueType
type_meant p (type.Scalar s) = ty.Scalar s
type_meant p (type.Heap (heap.Pointer name bang)) = pointer_type (struct_named p name)
type_meant p (type.Heap (heap.Array element bang)) = ty.Array element
type_meant p (type.Heap (heap.Endpoint contract end state bang in_heap)) = endpoint_type p.text (contract_named p contract) end state

-- the contract or the state in the type of an endpoint, if it is not declared
abbrev pub endpoint_unknown : List ℕ → Option (ℕ × ContractTree) → Span → Option Span → List Mistake
endpoint_unknown text None contract state = Unknown contract sort.Contract ∷ []
endpoint_unknown text (Some c) contract None = []
endpoint_unknown text (Some c) contract (Some state) = if is_declared text (names_of_states (states_of c.1)) state then []
    else Unknown state (sort.State (Some c.0)) ∷ []

-- the struct in the type of a pointer, if it is not declared
abbrev pub pointer_unknown : {X : Type 0} → Option X → Span → List Mistake
pointer_unknown None name = Unknown name sort.Struct ∷ []
pointer_unknown (Some s) name = []

-- the names in a written type that are not declared
abbrev pub type_unknown : ProgramText → type_nodes.Type.Type → List Mistake
type_unknown p (type.Scalar s) = []
type_unknown p (type.Heap (heap.Pointer name bang)) = pointer_unknown (struct_named p name) name
type_unknown p (type.Heap (heap.Array element bang)) = []
type_unknown p (type.Heap (heap.Endpoint contract end state bang in_heap)) =
    endpoint_unknown p.text (contract_named p contract) contract state

-- whether a written type is of the exchange heap, even if its names are not declared
abbrev pub is_heap : type_nodes.Type.Type → Bool
is_heap (type.Scalar s) = false
is_heap (type.Heap h) = true

-- the type of the value that a message brings for this parameter; unknown if there is no such parameter
abbrev pub brought_type : ProgramText → Option MessageParameter → ValueType
brought_type p None = ty.Unknown
brought_type p (Some x) = type_meant p x.ty
