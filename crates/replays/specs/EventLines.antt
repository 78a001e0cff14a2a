-- The lines of the events of a run: who acts, where in the text, and what is done with which blocks.
use Rattle.std.specs.Prelude.{ℕ, ◌+◌, ◌==◌, Bool, true, false, List, [], ◌∷◌, ◌++◌, Option, Some, None, length, map, slice_get, codes}
use Rattle.std.specs.Prelude.{if◌then◌else◌}
use Rattle.std.specs.Fmt.{decimal}
use Rattle.std.specs.List.{join_with_byte}
use Rattle.std.specs.Option.{option_map_or}
use Rattle.source.specs.declared.place.Place.{Place}
use Rattle.program.specs.Programs.{ProgramModel}
use Rattle.program.specs.declared.statement.Action.{Action}
use Rattle.program.specs.declared.statement.Action.TheVariants.{Use, Move, Delete, Exchange, NewChannel}
use Rattle.program.specs.declared.statement.Mention.{Mention}
use Rattle.program.specs.declared.types.HeapType.{HeapType}
use Rattle.program.specs.declared.types.HeapType.TheVariants.{Endpoint}
use Rattle.flow.specs.Cases.{first_mentions}
use Rattle.flow.specs.Graphs.{Instruction, Act, New, Send, Switch, Branch, Forget, Call, Start}
use Rattle.flow.specs.Graphs.{Return, Stop}
use Rattle.flow.specs.declared.graph.Branches.{Branches}
use Rattle.flow.specs.declared.graph.Branches.TheVariants.{Either, Only}
use Rattle.machine.specs.Blocks.{is_imp}
use Rattle.machine.specs.Frames.{address, addresses, instruction_at, payloads_claimed, type_at, variables_of}
use Rattle.machine.specs.Places.{place_of}
use Rattle.machine.specs.World.{Block, Frame, MessageHeld, World, block_at, read, stack_at}
use Rattle.machine.specs.declared.halts.Event.{Event}
use Rattle.replays.specs.Names.{Words, message_name}
use Rattle.replays.specs.declared.detail.Detail.{Detail}
use Rattle.replays.specs.declared.detail.Detail.TheVariants.{Nothing, Notable, Everything}
use Rattle.replays.specs.WorldLines.{place_text}

-- where the names in the lines come from: those of a replay, and the names of methods, `Class.Method`, in order of the text; and which
-- events have lines
pub record TraceWords : Type 0 where
  pub words : Words
  pub methods : List (List ℕ)
  pub detail : Detail

-- whether an instruction is notable: more than a use, a move, the end of a scope, or a condition that goes one way only
abbrev pub is_notable : Instruction → Bool
is_notable (Act (Use v) next) = false
is_notable (Act (Move v u) next) = false
is_notable (Forget g next) = false
is_notable (Branch place (Only point)) = false
is_notable _ = true

-- whether an instruction has a line
abbrev pub has_line : Detail → Instruction → Bool
has_line Nothing i = false
has_line Notable i = is_notable i
has_line Everything i = true

-- a name, and the address of a block: `note (block 3)`
abbrev pub with_address : List ℕ → ℕ → List ℕ
with_address name a = name ++ (codes " (block " ++ (decimal a ++ codes ")"))

-- a message and the addresses of the blocks that it brings: `Deposit(3)`, or `Ok` if it brings none
abbrev pub message_with : List ℕ → List ℕ → List ℕ
message_with name [] = name
message_with name (a ∷ payload) = name ++ (codes "(" ++ (join_with_byte 44 (map decimal (a ∷ payload)) ++ codes ")"))

-- the way that a condition goes
abbrev pub way_text : Branches → (choice : ℕ) → List ℕ
way_text (Only point) choice = codes "constant condition"
way_text (Either inside past) choice = if choice == 0 then codes "condition true" else codes "condition false"

-- a method that ends: its process ends with it if no frame waits below, or else goes on in the caller
abbrev pub end_text : (callers : ℕ) → List ℕ
end_text callers = if callers == 0 then codes "ended" else codes "returns"

-- what is named in a frame
module _ (w : Words) (f : Frame) where
  -- the name of a variable; empty if there is none
  abbrev pub name : Mention → List ℕ
  name x = option_map_or (λ v. v.name) (slice_get (variables_of w.program f.method) x.variable.0) []

  -- its type
  abbrev pub type : Mention → HeapType
  type x = type_at (variables_of w.program f.method) x.variable.0

  -- the address in a variable; 0 if it has none
  abbrev pub at : Mention → ℕ
  at x = address (read f.variables x.variable.0)

  -- a variable and the block that it has: `note (block 3)`
  abbrev pub variable_text : Mention → List ℕ
  variable_text x = with_address (name x) (at x)

  -- the ends of a new channel, whose importing end is the block at this address
  abbrev pub ends_text : Mention → Mention → Bool → (imp : ℕ) → List ℕ
  ends_text first second true imp = with_address (name first) imp ++ (codes ", " ++ with_address (name second) (imp + 1))
  ends_text first second false imp = with_address (name first) (imp + 1) ++ (codes ", " ++ with_address (name second) imp)

  -- what an action does; a new block has this address
  abbrev pub action_text : (new : ℕ) → Action → List ℕ
  action_text new (Use x) = codes "uses " ++ variable_text x
  action_text new (Move v u) = name v ++ (codes " takes " ++ variable_text u)
  action_text new (Delete x) = codes "deletes " ++ variable_text x
  action_text new (Exchange x) = codes "exchanges " ++ (variable_text x.given ++ (codes " with a field of " ++ variable_text x.holder))
  action_text new (NewChannel c) = codes "makes the channel " ++ ends_text c.first c.second (is_imp (type c.first)) new

  -- the name of a message of the contract of an endpoint; empty for other types
  abbrev pub message_of : HeapType → ℕ → List ℕ
  message_of (Endpoint contract side state) message = message_name w contract.0 message
  message_of _ message = []

  -- what arrives at an endpoint of this type with this queue
  abbrev pub arrival_text : HeapType → List MessageHeld → List ℕ
  arrival_text ty [] = codes "ChannelClosed"
  arrival_text ty (m ∷ queue) = message_with (message_of ty m.message) m.payload

  -- what arrives at the endpoint of a choice, and where
  abbrev pub received_text : List Block → Option Mention → List ℕ
  received_text blocks None = []
  received_text blocks (Some x) =
      codes "receives " ++ (arrival_text (type x) (block_at blocks (at x)).queue ++ (codes " on " ++ name x))

-- the name of a method; empty if there is none
abbrev pub method_name : TraceWords → ℕ → List ℕ
method_name t m = option_map_or (λ name. name) (slice_get t.methods m) []

-- the event of a process with this innermost frame, and this many below it, in a world
module _ (t : TraceWords) (w : World) (e : Event) (f : Frame) (callers : ℕ) where
  -- what an instruction does
  abbrev pub step_text : Instruction → List ℕ
  step_text (Act action next) = action_text t.words f (length w.blocks) action
  step_text (New x arguments next) = codes "makes " ++ with_address (name t.words f x) (length w.blocks)
  step_text (Send place x message payloads next) =
      codes "sends " ++ (message_with (message_of t.words f (type t.words f x) message.0)
      (addresses f.variables (payloads_claimed payloads)) ++ (codes " on " ++ name t.words f x))
  step_text (Switch place cases) = received_text t.words f w.blocks (slice_get (first_mentions [] cases) e.choice)
  step_text (Branch place branches) = way_text branches e.choice
  step_text (Forget g next) = codes "leaves a scope"
  step_text (Call place method arguments target next) = codes "calls " ++ method_name t method.0
  step_text (Start place method arguments next) =
      codes "starts P" ++ (decimal (length w.processes) ++ (codes ": " ++ method_name t method.0))
  step_text (Return place value scope) = end_text callers
  step_text (Stop place) = end_text callers

  -- `P1 21:5 sends Deposit(3) on other`, with its end; nothing for an instruction without a line
  abbrev pub step_line : Instruction → List ℕ
  step_line i =
      if has_line t.detail i
      then (codes "P" ++ (decimal e.process ++ (codes " " ++ (place_text (place_of i) ++ (codes " " ++ (step_text i ++ codes "\n"))))))
      else []

-- the line of an event of a process with these frames; none if the process does not run
abbrev pub stack_line : TraceWords → World → Event → List Frame → List ℕ
stack_line t w e [] = []
stack_line t w e (f ∷ rest) = option_map_or (step_line t w e f (length rest)) (instruction_at t.words.program f) []

-- the line of an event in a world
abbrev pub event_line : TraceWords → World → Event → List ℕ
event_line t w e = stack_line t w e (stack_at w.processes e.process)

-- whether an instruction is a condition that may go either way
abbrev pub is_open : Instruction → Bool
is_open (Branch place (Either inside past)) = true
is_open _ = false

-- whether the innermost of these frames is at such a condition
abbrev pub is_open_in : ProgramModel → List Frame → Bool
is_open_in p [] = false
is_open_in p (f ∷ rest) = option_map_or is_open (instruction_at p f) false

-- whether a process of a world is at such a condition
abbrev pub is_open_at : ProgramModel → World → ℕ → Bool
is_open_at p w process = is_open_in p (stack_at w.processes process)

-- how many conditions an event of this process chooses
abbrev pub conditions_in : ProgramModel → World → ℕ → ℕ
conditions_in p w process = if is_open_at p w process then 1 else 0
