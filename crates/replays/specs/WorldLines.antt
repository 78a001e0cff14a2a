-- The lines in which a replay is printed, each with its end.
use Rattle.std.specs.Prelude.{ℕ, List, [], ◌∷◌, ◌++◌, Option, Some, None, length, map, slice_get, codes}
use Rattle.std.specs.Fmt.{decimal}
use Rattle.std.specs.List.{enumerate_from, flat_map, join_with_byte}
use Rattle.source.specs.declared.place.Place.{Place}
use Rattle.program.specs.Programs.{ProgramModel}
use Rattle.program.specs.declared.types.HeapType.{HeapType}
use Rattle.program.specs.declared.types.HeapType.TheVariants.{Endpoint}
use Rattle.machine.specs.Places.{stack_place}
use Rattle.machine.specs.World.{Block, Frame, MessageHeld}
use Rattle.machine.specs.declared.halts.Event.{Event}
use Rattle.machine.specs.declared.halts.Fault.{Fault}
use Rattle.machine.specs.declared.halts.Fault.TheVariants as faults
use Rattle.machine.specs.declared.halts.Halt.{Halt}
use Rattle.machine.specs.declared.halts.Halt.TheVariants as halts
use Rattle.machine.specs.declared.worlds.Owner.{Owner}
use Rattle.machine.specs.declared.worlds.Owner.TheVariants.{Process, Queue, Inside, Channel, Freed}
use Rattle.replays.specs.Names.{Words, type_name, message_name, state_name}

-- `steps N`
abbrev pub steps_line : ℕ → List ℕ
steps_line steps = codes "steps " ++ (decimal steps ++ codes "\n")

-- `LINE:COL`
abbrev pub place_text : Place → List ℕ
place_text at = decimal at.line ++ (codes ":" ++ decimal at.col)

-- the name of a fault
abbrev pub fault_name : Fault → List ℕ
fault_name faults.F1 = codes "F1"
fault_name faults.F2 = codes "F2"
fault_name faults.F3 = codes "F3"
fault_name faults.F4 = codes "F4"
fault_name faults.F5 = codes "F5"
fault_name faults.F6 = codes "F6"
fault_name faults.F7 = codes "F7"

-- why an event was no step, as it is printed
abbrev pub halt_text : Event → Halt → List ℕ
halt_text e halts.NoSuchProcess = codes "no process " ++ decimal e.process
halt_text e halts.NoSuchChoice = codes "no choice " ++ (decimal e.choice ++ (codes " of process " ++ decimal e.process))
halt_text e (halts.Fault fault at) =
    codes "fault " ++ (fault_name fault ++ (codes " at " ++ (place_text at ++ (codes " in process " ++ decimal e.process))))
halt_text e halts.Waits = codes "process " ++ (decimal e.process ++ codes " waits")
halt_text e halts.Memory = codes "out of memory"

-- why the replay stopped: there is no further event, or the next one is no step
abbrev pub stop_text : Option Event → Option Halt → List ℕ
stop_text (Some e) (Some why) = halt_text e why
stop_text _ _ = codes "end of schedule"

-- `stop: ` and the reason
abbrev pub stop_line : Option Event → Option Halt → List ℕ
stop_line e why = codes "stop: " ++ (stop_text e why ++ codes "\n")

-- how many frames a process has, and where it is; or that it has ended
abbrev pub position_text : ℕ → Option Place → List ℕ
position_text frames None = codes " ended"
position_text frames (Some at) = codes " at " ++ (place_text at ++ (codes ", frames " ++ decimal frames))

-- `process P at LINE:COL, frames N`, or `process P ended`
abbrev pub process_line : ℕ → ℕ × Option Place → List ℕ
process_line number at = codes "process " ++ (decimal number ++ (position_text at.0 at.1 ++ codes "\n"))

-- where a process with these frames is: how many they are, and the place of the innermost
abbrev pub position : ProgramModel → List Frame → ℕ × Option Place
position p stack = (length stack, stack_place p stack)

-- an owner, as it is printed
abbrev pub owner_text : Owner → List ℕ
owner_text (Process q) = codes "process " ++ decimal q
owner_text (Queue a) = codes "queue " ++ decimal a
owner_text (Inside a) = codes "block " ++ decimal a
owner_text Channel = codes "channel"
owner_text Freed = codes "nobody"

-- the addresses that owning fields hold, if there are any, as ` holds [2,3]`
abbrev pub holds_text : List ℕ → List ℕ
holds_text [] = []
holds_text (a ∷ fields) = codes " holds [" ++ (join_with_byte 44 (map decimal (a ∷ fields)) ++ codes "]")

module _ (w : Words) where
  -- a message of a contract with what it brings, as `M(2,3)`
  abbrev pub message_text : ℕ → MessageHeld → List ℕ
  message_text contract m = message_name w contract m.message ++ (codes "(" ++ (join_with_byte 44 (map decimal m.payload) ++ codes ")"))

  -- the state of an endpoint
  abbrev pub state_text : HeapType → ℕ → List ℕ
  state_text (Endpoint contract side declared) state = codes " " ++ state_name w contract.0 state
  state_text _ state = []

  -- its queue, front first
  abbrev pub queue_text : HeapType → List MessageHeld → List ℕ
  queue_text (Endpoint contract side declared) queue =
      codes " queue [" ++ (join_with_byte 32 (map (message_text contract.0) queue) ++ codes "]")
  queue_text _ queue = []

  -- what is printed of a block: that it is freed, or who owns it and what its fields hold; of an endpoint its state and its queue too
  abbrev pub block_text : Block → Owner → List ℕ
  block_text b Freed = codes " freed"
  block_text b owner =
      state_text b.ty b.state ++ (codes " owner " ++ (owner_text owner ++ (holds_text b.fields ++ queue_text b.ty b.queue)))

  -- `block A TYPE freed`, `block A TYPE owner OWNER`, perhaps with ` holds [..]`, or `block A C.Imp STATE owner OWNER queue [..]`
  abbrev pub block_line : ℕ → Block → List ℕ
  block_line address b = codes "block " ++ (decimal address ++ (codes " " ++ (type_name w b.ty ++ (block_text b b.owner ++ codes "\n"))))

  -- a line for each process, by where it is, and one for each block, in order
  abbrev pub world_lines : (positions : List (ℕ × Option Place)) → List Block → List ℕ
  world_lines positions blocks = flat_map (λ q. process_line q.0 q.1) (enumerate_from 0 positions)
      ++ flat_map (λ b. block_line b.0 b.1) (enumerate_from 0 blocks)

  -- what is printed of a replay: how many events were steps, why it stopped, and where processes and what blocks are after them
  abbrev pub replay_lines : List Event → (steps : ℕ) → Option Halt → (positions : List (ℕ × Option Place)) → List Block → List ℕ
  replay_lines events steps why positions blocks =
      steps_line steps ++ (stop_line (slice_get events steps) why ++ world_lines positions blocks)
