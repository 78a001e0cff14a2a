-- Small runs, computed by the definitions.
use Rattle.std.proofs.Common.{◌≡◌, ℕ, false, true, List, [], ◌∷◌, Some, None, refl}
use Rattle.std.specs.Prelude.{Option}
use Rattle.source.specs.declared.place.Place.{Place}
use Rattle.program.specs.Methods.{MethodModel, VariableModel}
use Rattle.program.specs.Parts.{ContractModel}
use Rattle.program.specs.Programs.{ProgramModel}
use Rattle.program.specs.Statements.{StatementModel, StatementsModel, Simple, New, Send, MoreStatements, NoStatement}
use Rattle.program.specs.declared.contract.Sign.TheVariants as sign
use Rattle.program.specs.declared.types.HeapType.{HeapType}
use Rattle.program.specs.declared.types.HeapType.TheVariants.{Struct, Endpoint}
use Rattle.program.specs.declared.types.Side.{Side}
use Rattle.program.specs.declared.types.Side.TheVariants.{Imp, Exp}
use Rattle.program.specs.declared.method.Role.TheVariants.{Local}
use Rattle.program.specs.declared.statement.Action.TheVariants as does
use Rattle.program.specs.declared.statement.Effect.TheVariants as effects
use Rattle.program.specs.declared.statement.Mention.{Mention}
use Rattle.machine.specs.Frames.{frame_at_entry}
use Rattle.machine.specs.Machine.{event_outcome}
use Rattle.machine.specs.Outcomes.{QueueBounds, Outcome, Moved, Faulty}
use Rattle.machine.specs.Runs.{start_of}
use Rattle.machine.specs.World.{Block, Frame, MessageHeld, cut_off, stack_at}
use Rattle.machine.specs.declared.halts.Event.{Event}
use Rattle.machine.specs.declared.halts.Fault.TheVariants.{F1, F3, F4, F7}
use Rattle.machine.specs.declared.worlds.Owner.{Owner}
use Rattle.machine.specs.declared.worlds.Owner.TheVariants.{Process, Queue, Inside, Channel, Freed}

abbrev at : Place
at = record { line = 1; col = 1 }

abbrev variable : HeapType → Option ℕ → VariableModel
variable k None = record { name = []; ty = k; role = Local; outer = None }
variable k (Some n) = record { name = []; ty = k; role = Local; outer = Some record { 0 = n } }

abbrev mention : ℕ → Mention
mention n = record { variable = record { 0 = n }; place = at }

-- a contract whose exporting end sends a message once
abbrev once : ContractModel
once = record {
  name = [];
  parts = record {
    first = record { 0 = 0 };
    states = [];
    messages = [];
    edges = record { from = record { 0 = 0 }; message = record { 0 = 0 }; sign = sign.Send; to = record { 0 = 1 }; place = at } ∷ [];
  };
}

-- a method with the two ends of a channel and a struct
abbrev method : StatementsModel → MethodModel
method statements = record {
  name = at;
  takes = false;
  gives = false;
  result = None;
  variables = variable (Endpoint record { 0 = 0 } Imp record { 0 = 0 }) None ∷ variable (Endpoint record { 0 = 0 } Exp record { 0 = 0 }) (Some 0) ∷ variable (Struct record { 0 = 0 }) (Some 1) ∷ [];
  statements = statements;
  scope = Some record { 0 = 2 };
  close = at;
}

abbrev row : List StatementModel → StatementsModel
row [] = NoStatement
row (s ∷ ss) = MoreStatements s (row ss)

-- opens the channel, and then runs these statements
abbrev opens : List StatementModel → ProgramModel
opens statements = record {
  contracts = once ∷ [];
  messages = (Struct record { 0 = 0 } ∷ []) ∷ [];
  structs = [];
  methods = method (MoreStatements (Simple [] (effects.Act (does.NewChannel record { place = at; contract = record { 0 = 0 }; first = mention 0; second = mention 1 }))) (row statements)) ∷ [];
}

abbrev sends : ℕ → StatementModel
sends n = Send record { reads = []; place = at; endpoint = mention 1; message = record { 0 = 0 }; payloads = mention n ∷ [] }

abbrev pub frees : Mention → StatementModel
frees v = Simple [] (effects.Act (does.Delete v))

-- makes a struct with these arguments
abbrev makes : List Mention → StatementModel
makes arguments = New record { reads = []; target = mention 2; arguments = arguments }

abbrev bound : QueueBounds
bound c s = 1

abbrev event : Event
event = record { process = 0; choice = 0 }

abbrev next : ProgramModel → Outcome → Outcome
next p (Moved w) = event_outcome p bound w event
next p o = o

-- the outcome of four events of the first process
abbrev four : ProgramModel → Outcome
four p = next p (next p (next p (next p (Moved (start_of p 0)))))

abbrev three : ProgramModel → Outcome
three p = next p (next p (next p (Moved (start_of p 0))))

abbrev two : ProgramModel → Outcome
two p = next p (next p (Moved (start_of p 0)))

abbrev blocks_of : Outcome → List Block
blocks_of (Moved w) = w.blocks
blocks_of _ = []

abbrev owners : List Block → List Owner
owners [] = []
owners (b ∷ bs) = b.owner ∷ owners bs

-- a struct is sent and then read
abbrev reads_what_it_sent : ProgramModel
reads_what_it_sent = opens (makes [] ∷ sends 2 ∷ Simple (mention 2 ∷ []) effects.Nothing ∷ [])

pub sent_then : blocks_of (three reads_what_it_sent) ≡
    record { ty = Endpoint record { 0 = 0 } Imp record { 0 = 0 }; owner = Process 0; peer = 1; state = 0; queue = record { message = 0; payload = 2 ∷ [] } ∷ []; fields = [] }
    ∷ record { ty = Endpoint record { 0 = 0 } Exp record { 0 = 0 }; owner = Process 0; peer = 0; state = 1; queue = []; fields = [] }
    ∷ record { ty = Struct record { 0 = 0 }; owner = Queue 0; peer = 0; state = 0; queue = []; fields = [] } ∷ []
sent_then = refl

pub read_then : four reads_what_it_sent ≡ Faulty F1
read_then = refl

-- an end is sent along the other one, to itself, and the other one is freed: the process owns nothing when it ends
abbrev sends_an_end : ProgramModel
sends_an_end = opens (sends 0 ∷ frees (mention 1) ∷ [])

pub end_sent : owners (blocks_of (three sends_an_end)) ≡ Queue 0 ∷ Freed ∷ []
end_sent = refl

-- the importing end is freed; a struct can still be sent, and goes to the channel
abbrev sends_to_nobody : ProgramModel
sends_to_nobody = opens (frees (mention 0) ∷ makes [] ∷ sends 2 ∷ [])

pub lost_then : owners (blocks_of (four sends_to_nobody)) ≡ Freed ∷ Process 0 ∷ Channel ∷ []
lost_then = refl

-- a message is sent twice, which the contract allows once
abbrev sends_twice : ProgramModel
sends_twice = opens (sends 0 ∷ makes [] ∷ sends 2 ∷ [])

pub sent_twice : four sends_twice ≡ Faulty F4
sent_twice = refl

-- the process ends and still owns the ends of its channel
abbrev keeps : ProgramModel
keeps = opens []

pub kept_then : next keeps (next keeps (next keeps (Moved (start_of keeps 0)))) ≡ Faulty F7
kept_then = refl

-- ---- blocks inside blocks
abbrev struct_of : Owner → List ℕ → Block
struct_of owner fields = record { ty = Struct record { 0 = 0 }; owner = owner; peer = 0; state = 0; queue = []; fields = fields }

abbrev end_of : Side → Owner → ℕ → List MessageHeld → Block
end_of side owner peer queue =
    record { ty = Endpoint record { 0 = 0 } side record { 0 = 0 }; owner = owner; peer = peer; state = 0; queue = queue; fields = [] }

abbrev deletes : ProgramModel
deletes = record {
  contracts = once ∷ [];
  messages = (Struct record { 0 = 0 } ∷ []) ∷ [];
  structs = [];
  methods = method (row (frees (mention 2) ∷ [])) ∷ [];
}

-- A struct holds a struct, which holds one more and an end. The queue of that end has a struct, which holds one itself.
abbrev nested : List Block
nested =
    struct_of (Process 0) (1 ∷ 3 ∷ [])
    ∷ struct_of (Inside 0) (2 ∷ [])
    ∷ struct_of (Inside 1) []
    ∷ end_of Imp (Inside 0) 4 (record { message = 0; payload = 5 ∷ [] } ∷ [])
    ∷ end_of Exp (Process 0) 3 []
    ∷ struct_of (Queue 3) (6 ∷ [])
    ∷ struct_of (Inside 5) []
    ∷ []

abbrev deleted : List Block
deleted = blocks_of (next deletes (Moved record {
  processes = (record { method = 0; point = (frame_at_entry deletes 0 []).point; variables = None ∷ Some 4 ∷ Some 0 ∷ [] } ∷ []) ∷ [];
  blocks = nested;
}))

-- all that is inside the deleted struct is freed; what the queue owned goes to the channel, with what is inside it
pub nested_deleted : deleted ≡
    struct_of Freed []
    ∷ struct_of Freed []
    ∷ struct_of Freed []
    ∷ end_of Imp Freed 4 []
    ∷ end_of Exp (Process 0) 3 []
    ∷ struct_of Channel (6 ∷ [])
    ∷ struct_of (Inside 5) []
    ∷ []
nested_deleted = refl

pub peer_cut_off : cut_off deleted 4 ≡ true
peer_cut_off = refl

-- both ends of a channel are inside the deleted struct
pub two_ends_deleted : blocks_of (next deletes (Moved record {
  processes = (record { method = 0; point = (frame_at_entry deletes 0 []).point; variables = None ∷ None ∷ Some 0 ∷ [] } ∷ []) ∷ [];
  blocks =
      struct_of (Process 0) (2 ∷ 1 ∷ [])
      ∷ end_of Imp (Inside 0) 2 (record { message = 0; payload = 3 ∷ [] } ∷ [])
      ∷ end_of Exp (Inside 0) 1 []
      ∷ struct_of (Queue 1) []
      ∷ [];
})) ≡ struct_of Freed [] ∷ end_of Imp Freed 2 [] ∷ end_of Exp Freed 1 [] ∷ struct_of Channel [] ∷ []
two_ends_deleted = refl

-- ---- what goes into blocks and comes out
-- Makes a struct of the importing end; then what a field of it holds and what a variable has change places.
abbrev exchanges : (field given : ℕ) → ProgramModel
exchanges field given =
    opens
    (makes (mention 0 ∷ [])
    ∷ Simple [] (effects.Act (does.Exchange record { place = at; holder = mention 2; field = field; given = mention given }))
    ∷ [])

abbrev end_inside : List Block
end_inside = end_of Imp (Inside 2) 1 [] ∷ end_of Exp (Process 0) 0 [] ∷ struct_of (Process 0) (0 ∷ []) ∷ []

-- what the variables of the first process have
abbrev had_in : List Frame → List (Option ℕ)
had_in [] = []
had_in (f ∷ rest) = f.variables

abbrev had : Outcome → List (Option ℕ)
had (Moved w) = had_in (stack_at w.processes 0)
had _ = []

pub made_then : blocks_of (two (exchanges 0 1)) ≡ end_inside
made_then = refl

pub exchanged_then : blocks_of (three (exchanges 0 1))
    ≡ end_of Imp (Process 0) 1 [] ∷ end_of Exp (Inside 2) 0 [] ∷ struct_of (Process 0) (1 ∷ []) ∷ []
exchanged_then = refl

pub had_then : had (three (exchanges 0 1)) ≡ None ∷ Some 0 ∷ Some 2 ∷ []
had_then = refl

-- the struct has no second field, so nothing changes
pub none_exchanged : blocks_of (three (exchanges 1 1)) ≡ end_inside
none_exchanged = refl

-- no block goes into itself, and no block goes in that was given already
pub not_into_itself : three (exchanges 0 2) ≡ Faulty F3
not_into_itself = refl

pub not_again : three (exchanges 0 0) ≡ Faulty F3
not_again = refl

pub not_twice : two (opens (makes (mention 1 ∷ mention 1 ∷ []) ∷ [])) ≡ Faulty F3
not_twice = refl
