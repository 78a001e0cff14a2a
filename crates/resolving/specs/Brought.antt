-- What messages bring: a block for each of their parameters that are of the exchange heap.
use Rattle.std.specs.Prelude.{List, [], ◌∷◌, map, Option, None, Some}
use Rattle.std.specs.List.{flat_map}
use Rattle.tree.specs.Trees.{MessageTree, contracts_of}
use Rattle.tree.specs.declared.contract.MessageParameter.{MessageParameter}
use Rattle.declarations.specs.Declarations.{messages_of}
use Rattle.declarations.specs.Program.{ProgramText}
use Rattle.program.specs.declared.types.HeapType.{HeapType}
use Rattle.resolving.specs.Types.{type_held}

-- a type of the exchange heap, if there is one
abbrev pub held_listed : Option HeapType → List HeapType
held_listed None = []
held_listed (Some held) = held ∷ []

-- the types of the parameters that are of the exchange heap, in order
abbrev pub params_held : ProgramText → List MessageParameter → List HeapType
params_held p params = flat_map (λ x. held_listed (type_held p x.ty)) params

-- what a message brings
abbrev pub payload_types : ProgramText → MessageTree → List HeapType
payload_types p m = params_held p m.params

-- what each message of a program brings; the number of a message is its index here
abbrev pub messages_told : ProgramText → List (List HeapType)
messages_told p = map (payload_types p) (flat_map messages_of (contracts_of p.items))
