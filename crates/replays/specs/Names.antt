-- How the parts of a world are named.
use Rattle.std.specs.Prelude.{ℕ, ◌==◌, List, [], ◌++◌, Option, find, option_and_then, slice_get, codes}
use Rattle.std.specs.Option.{option_map_or}
use Rattle.program.specs.Parts.{ContractModel, StateModel}
use Rattle.program.specs.Programs.{ProgramModel}
use Rattle.program.specs.declared.types.HeapType.{HeapType}
use Rattle.program.specs.declared.types.HeapType.TheVariants.{Struct, Array, Endpoint}
use Rattle.program.specs.declared.types.Scalar.{Scalar}
use Rattle.program.specs.declared.types.Scalar.TheVariants.{Int, Bool, Byte}
use Rattle.program.specs.declared.types.Side.{Side}
use Rattle.program.specs.declared.types.Side.TheVariants.{Imp, Exp}
use Rattle.contracts.specs.Leaving.{name_among}

-- Where names come from. Contracts, states and messages have theirs in the program. Structs are
-- only numbers there, so their names are given, in order of the text.
pub record Words : Type 0 where
  pub program : ProgramModel
  pub structs : List (List ℕ)

-- the name of a scalar type
abbrev pub scalar_name : Scalar → List ℕ
scalar_name Int = codes "int"
scalar_name Bool = codes "bool"
scalar_name Byte = codes "byte"

-- the name of an end
abbrev pub side_name : Side → List ℕ
side_name Imp = codes "Imp"
side_name Exp = codes "Exp"

-- the state of this number in a contract, if there is one
abbrev pub state_of : List ContractModel → ℕ → ℕ → Option StateModel
state_of contracts contract state = option_and_then (λ c. find (λ s. s.id.0 == state) c.parts.states) (slice_get contracts contract)

module _ (w : Words) where
  -- the name of the struct of this number; empty if there is none, as for the names below
  abbrev pub struct_name : ℕ → List ℕ
  struct_name n = option_map_or (λ name. name) (slice_get w.structs n) []

  -- the name of the contract of this number
  abbrev pub contract_name : ℕ → List ℕ
  contract_name contract = option_map_or (λ c. c.name) (slice_get w.program.contracts contract) []

  -- a state of a contract, as it is printed
  abbrev pub state_name : ℕ → ℕ → List ℕ
  state_name contract state = option_map_or (λ s. s.name) (state_of w.program.contracts contract state) []

  -- the name of a message of a contract
  abbrev pub message_name : ℕ → ℕ → List ℕ
  message_name contract message = option_map_or (λ c. name_among c.parts.messages message) (slice_get w.program.contracts contract) []

  -- a type, as it is printed: the name of a struct, `byte[]`, or `C.Imp`
  abbrev pub type_name : HeapType → List ℕ
  type_name (Struct n) = struct_name n.0
  type_name (Array element) = scalar_name element ++ codes "[]"
  type_name (Endpoint contract side state) = contract_name contract.0 ++ (codes "." ++ side_name side)
