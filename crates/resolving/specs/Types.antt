-- What types hold, with their names resolved to numbers.
use Rattle.std.specs.Prelude.{ℕ, Option, None, Some, option_map, option_and_then, slice_get}
use Rattle.std.specs.Option.{option_map_or}
use Rattle.source.specs.declared.token.Span.{Span}
use Rattle.tree.specs.Trees.{contracts_of}
use Rattle.tree.specs.declared.types as type_nodes
use Rattle.tree.specs.declared.types.Heap.TheVariants as heap
use Rattle.program.specs.declared.types.Side.{Side}
use Rattle.tree.specs.declared.types.Type.TheVariants as type
use Rattle.declarations.specs.Types.{type_meant}
use Rattle.declarations.specs.Indices.{contract_index, state_index}
use Rattle.declarations.specs.Program.{ProgramText}
use Rattle.program.specs.Parts.{ContractModel}
use Rattle.declarations.specs.Resolution.{resolved_contracts}
use Rattle.declarations.specs.declared.value_type as names
use Rattle.declarations.specs.declared.value_type.ValueType.TheVariants as name
use Rattle.program.specs.declared.number.ContractId.{ContractId}
use Rattle.program.specs.declared.number.StateId.{StateId}
use Rattle.program.specs.declared.types.HeapType.{HeapType}
use Rattle.program.specs.declared.types.HeapType.TheVariants.{Struct, Array, Endpoint}
use Rattle.resolving.specs.Counts.{contracts_before, structs_before}

-- the contract that is the item at this index, with its names resolved
abbrev pub contract_at : ProgramText → ℕ → Option ContractModel
contract_at p n = slice_get (resolved_contracts p.text (contracts_of p.items)) (contracts_before p.items n)

-- the number of the state of this name
abbrev pub named_state : ProgramText → ℕ → ContractModel → Span → Option StateId
named_state p n c name = option_map (λ s. s.id) (option_and_then (slice_get c.parts.states) (state_index p n name))

-- the number of the state that is written, or else of the contract's initial state
abbrev pub state_of : ProgramText → ℕ → ContractModel → Option Span → StateId
state_of p n c state = option_map_or (λ s. s) (option_and_then (named_state p n c) state) c.parts.first

-- the number of the contract that is the item at this index
abbrev pub contract_number : ProgramText → ℕ → ContractId
contract_number p n = record { 0 = contracts_before p.items n }

-- how many contracts come before the item at this index, which is its number if it is one; none if no contract is there or follows
abbrev pub number_at : ProgramText → ℕ → Option ContractId
number_at p n = option_map (λ c. contract_number p n) (contract_at p n)

-- the number of the contract of this name
abbrev pub contract_named : ProgramText → Span → Option ContractId
contract_named p name = option_and_then (number_at p) (contract_index p name)

-- what an endpoint's type holds, if its contract is declared
abbrev pub endpoint_held : ProgramText → ℕ → Side → Option Span → Option HeapType
endpoint_held p n side state = option_map (λ c. Endpoint (contract_number p n) side (state_of p n c state)) (contract_at p n)

-- what a variable of this type holds, if it is of the exchange heap
abbrev pub heap_type : ProgramText → names.ValueType.ValueType → Option Span → Option HeapType
heap_type p (name.Pointer n) state = option_map (λ i. Struct (record { 0 = structs_before p.items n })) (slice_get p.items n)
heap_type p (name.Array element) state = Some (Array element)
heap_type p (name.Endpoint side n) state = endpoint_held p n side state
heap_type p (name.Scalar s) state = None
heap_type p name.Missing state = None
heap_type p name.Unknown state = None

-- the state that a written type names
abbrev pub state_in : type_nodes.Type.Type → Option Span
state_in (type.Heap (heap.Endpoint contract side state bang in_heap)) = state
state_in _ = None

-- what a variable of this written type holds, if it is of the exchange heap
abbrev pub type_held : ProgramText → type_nodes.Type.Type → Option HeapType
type_held p t = heap_type p (type_meant p t) (state_in t)

-- what a method returns, if it is of the exchange heap
abbrev pub result_held : ProgramText → Option type_nodes.Type.Type → Option HeapType
result_held p t = option_and_then (type_held p) t
