-- Small programs, run by the definitions, and the lines that are printed.
use Rattle.std.proofs.Common.{◌≡◌, ◌∙◌, ◌+◌, ◌<◌, ◌≤◌, ◌/◌, ◌%◌, ◌++◌, ap, arith, ℕ, true, false, List, [], ◌∷◌, Option, Some, None, map, refl, replicate}
use Rattle.std.specs.Prelude.{codes, unwrap_or}
use Rattle.std.specs.Fmt.{decimal}
use Rattle.std.proofs.lemmas.Fmt.{decimal_digit, decimal_step}
use Rattle.source.specs.declared.place.Place.{Place}
use Rattle.program.specs.Methods.{MethodModel, VariableModel}
use Rattle.program.specs.Parts.{ContractModel, MessageModel, StateModel}
use Rattle.program.specs.Programs.{ProgramModel}
use Rattle.program.specs.Statements.{CaseModel, CasesModel, StatementModel, Simple, New, Start, Send, While, Switch, Braces, Test, Case, NoCase}
use Rattle.program.specs.Statements.{MoreCases, statement_sequence}
use Rattle.program.specs.declared.contract.Direction.{Direction}
use Rattle.program.specs.declared.contract.Direction.TheVariants.{In, Out}
use Rattle.program.specs.declared.contract.Edge.{Edge}
use Rattle.program.specs.declared.contract.Sign.{Sign}
use Rattle.program.specs.declared.contract.Sign.TheVariants as sign
use Rattle.program.specs.declared.types.HeapType.{HeapType}
use Rattle.program.specs.declared.types.HeapType.TheVariants.{Struct, Endpoint}
use Rattle.program.specs.declared.types.Side.TheVariants.{Imp, Exp}
use Rattle.program.specs.declared.method.Role.{Role}
use Rattle.program.specs.declared.method.Role.TheVariants.{Local, Claimed}
use Rattle.program.specs.declared.statement.Action.{Action}
use Rattle.program.specs.declared.statement.Action.TheVariants as does
use Rattle.program.specs.declared.statement.Effect.TheVariants as effects
use Rattle.program.specs.declared.statement.Awaited.{Awaited}
use Rattle.program.specs.declared.statement.Awaited.TheVariants as awaits
use Rattle.program.specs.declared.statement.Mention.{Mention}
use Rattle.program.specs.declared.statement.Ways.TheVariants.{Body}
use Rattle.machine.proofs.SmallRuns.{frees}
use Rattle.machine.specs.Machine.{event_outcome}
use Rattle.machine.specs.Outcomes.{QueueBounds, Outcome, Moved, Faulty, Waits, NoProcess, NoChoice}
use Rattle.machine.specs.Places.{process_place}
use Rattle.machine.specs.Runs.{start_of}
use Rattle.machine.specs.World.{Block, World}
use Rattle.machine.specs.declared.halts.Event.{Event}
use Rattle.machine.specs.declared.halts.Halt.{Halt}
use Rattle.machine.specs.declared.halts.Halt.TheVariants as halts
use Rattle.machine.specs.declared.worlds.Owner.{Owner}
use Rattle.machine.specs.declared.worlds.Owner.TheVariants.{Process, Inside, Freed}
use Rattle.replays.specs.WorldLines.{position, replay_lines, world_lines}

-- numbers of one digit, and two of two
digit : (n : ℕ) → n < 10 → decimal n ≡ (48 + n) ∷ []
digit n h = decimal_digit n h

two_digits : (n : ℕ) → 10 ≤ n → n < 100 → decimal n ≡ (48 + n / 10) ∷ (48 + n % 10) ∷ []
two_digits n h k = decimal_step n h (omega arith) ∙ ap (λ l. l ++ ((48 + n % 10) ∷ [])) (decimal_digit (n / 10) (omega arith))

abbrev at : ℕ → ℕ → Place
at line col = record { line = line; col = col }

abbrev mention : ℕ → ℕ → ℕ → Mention
mention v line col = record { variable = record { 0 = v }; place = at line col }

abbrev state : ℕ → List ℕ → StateModel
state n name = record { id = record { 0 = n }; name = name; place = at 1 1 }

abbrev message : ℕ → List ℕ → Direction → MessageModel
message n name direction = record { id = record { 0 = n }; name = name; direction = direction }

abbrev edge : ℕ → ℕ → Sign → ℕ → Edge
edge from m s to = record { from = record { 0 = from }; message = record { 0 = m }; sign = s; to = record { 0 = to }; place = at 1 1 }

abbrev variable : HeapType → Role → VariableModel
variable k role = record { name = []; ty = k; role = role; outer = None }

abbrev importing : HeapType
importing = Endpoint record { 0 = 0 } Imp record { 0 = 0 }

abbrev exporting : HeapType
exporting = Endpoint record { 0 = 0 } Exp record { 0 = 0 }

-- a method without result at these places; its variables are the two ends of a channel and a struct
abbrev main : List StatementModel → Place → MethodModel
main statements close = record {
  name = at 1 1;
  takes = false;
  gives = false;
  result = None;
  variables = variable importing Local ∷ variable exporting Local ∷ variable (Struct record { 0 = 0 }) Local ∷ [];
  statements = statement_sequence statements;
  scope = None;
  close = close;
}

abbrev acts : Action → StatementModel
acts action = Simple [] (effects.Act action)

abbrev opens : ℕ → StatementModel
opens line = acts (does.NewChannel record { place = at line 1; contract = record { 0 = 0 }; first = mention 0 line 1; second = mention 1 line 1 })

abbrev sends : (line col endpoint message : ℕ) → List Mention → StatementModel
sends line col e m payloads = Send record { reads = []; place = at line col; endpoint = mention e line 1; message = record { 0 = m }; payloads = payloads }

-- makes a struct with these arguments
abbrev makes : (line col : ℕ) → List Mention → StatementModel
makes line col arguments = New record { reads = []; target = mention 2 line col; arguments = arguments }

abbrev deletes : ℕ → StatementModel
deletes v = frees (mention v 1 1)

-- a case with these statements, which binds nothing
abbrev comes : ℕ → Awaited → List StatementModel → CaseModel
comes v what statements = Case (mention v 1 1) what [] (Braces (statement_sequence statements) None)

abbrev leaves : StatementModel
leaves = Simple [] (effects.Break None)

abbrev cases : List CaseModel → CasesModel
cases [] = NoCase
cases (c ∷ cs) = MoreCases c (cases cs)

-- a bound that no queue here reaches
abbrev bound : QueueBounds
bound c s = 5

abbrev event : ℕ → Event
event q = record { process = q; choice = 0 }

record Ran : Type 0 where
  steps : ℕ
  why : Option Halt
  world : World

abbrev stopped : ℕ → Halt → World → Ran
stopped n why w = record { steps = n; why = Some why; world = w }

-- the run after an event with this outcome; it goes on after a step
abbrev behind : ProgramModel → World → Event → ℕ → Outcome → (World → Ran) → Ran
behind p w e n (Moved v) more = more v
behind p w e n (Faulty fault) more = stopped n (halts.Fault fault (unwrap_or (process_place p w e.process) (at 0 0))) w
behind p w e n Waits more = stopped n halts.Waits w
behind p w e n NoProcess more = stopped n halts.NoSuchProcess w
behind p w e n NoChoice more = stopped n halts.NoSuchChoice w

abbrev ran : ProgramModel → List Event → ℕ → World → Ran
ran p [] n w = record { steps = n; why = None; world = w }
ran p (e ∷ events) n w = behind p w e n (event_outcome p bound w e) (ran p events (n + 1))

-- what is printed for these events from the beginning of the first method; the one struct is D
abbrev printed : ProgramModel → List Event → List ℕ
printed p events =
    let r = ran p events 0 (start_of p 0) in
    replay_lines (record { program = p; structs = codes "D" ∷ [] }) events r.steps r.why (map (position p) r.world.processes) r.world.blocks

abbrev program : ContractModel → List (List HeapType) → List MethodModel → ProgramModel
program c messages methods = record { contracts = c ∷ []; messages = messages; structs = []; methods = methods }

-- a block is read after it was sent
abbrev put : ContractModel
put = record {
  name = codes "Put";
  parts = record {
    first = record { 0 = 0 };
    states = state 0 (codes "S") ∷ state 1 (codes "E") ∷ [];
    messages = message 0 (codes "X") Out ∷ [];
    edges = edge 0 0 sign.Send 1 ∷ [];
  };
}

abbrev reads_what_it_sent : ProgramModel
reads_what_it_sent = program put ((Struct record { 0 = 0 } ∷ []) ∷ []) (main
    (opens 6 ∷ makes 7 14 [] ∷ sends 8 3 1 0 (mention 2 8 9 ∷ []) ∷ Simple (mention 2 9 9 ∷ []) effects.Nothing ∷ deletes 0 ∷ deletes 1 ∷ []) (at 11 1) ∷ [])

pub sent_then_read : printed reads_what_it_sent (replicate 5 (event 0))
    ≡ codes "steps 3\nstop: fault F1 at 9:9 in process 0\nprocess 0 at 9:9, frames 1\nblock 0 Put.Imp S owner process 0 queue [X(2)]\nblock 1 Put.Exp E owner process 0 queue []\nblock 2 D owner queue 0\n"
sent_then_read = simp (digit 0 (omega arith), digit 1 (omega arith), digit 2 (omega arith), digit 3 (omega arith), digit 9 (omega arith)) refl

-- a process waits for a request
abbrev ping : ContractModel
ping = record {
  name = codes "Ping";
  parts = record {
    first = record { 0 = 0 };
    states = state 0 (codes "Start") ∷ state 1 (codes "Pend") ∷ [];
    messages = message 0 (codes "Req") In ∷ message 1 (codes "Rep") Out ∷ [];
    edges = edge 0 0 sign.Receive 1 ∷ edge 1 1 sign.Send 0 ∷ [];
  };
}

abbrev serve : MethodModel
serve = record {
  name = at 14 13;
  takes = true;
  gives = false;
  result = None;
  variables = variable exporting Claimed ∷ [];
  statements = statement_sequence (While (Test (at 15 1) [] Body (Braces (statement_sequence (
      Switch (at 16 1) (cases (
      comes 0 (awaits.Message record { 0 = 0 }) (sends 17 15 0 1 [] ∷ leaves ∷ [])
      ∷ comes 0 awaits.Closed (deletes 0 ∷ Simple [] (effects.Return (at 18 39) None None) ∷ []) ∷ []))
      ∷ [])) None)) ∷ []);
  scope = None;
  close = at 21 1;
}

abbrev waits_for_a_request : ProgramModel
waits_for_a_request = program ping ([] ∷ [] ∷ []) (main
    (opens 5 ∷ Start record { reads = []; place = at 6 9; method = record { 0 = 1 }; arguments = record { mention = mention 1 6 15; claimed = true } ∷ []; target = None; behind = [] }
    ∷ sends 7 3 0 0 []
    ∷ Switch (at 8 1) (cases (comes 0 (awaits.Message record { 0 = 1 }) (leaves ∷ []) ∷ comes 0 awaits.Closed (leaves ∷ []) ∷ []))
    ∷ deletes 0 ∷ []) (at 13 1) ∷ serve ∷ [])

pub started_and_waits : printed waits_for_a_request (event 0 ∷ event 0 ∷ event 1 ∷ event 1 ∷ [])
    ≡ codes "steps 3\nstop: process 1 waits\nprocess 0 at 7:3, frames 1\nprocess 1 at 16:1, frames 1\nblock 0 Ping.Imp Start owner process 0 queue []\nblock 1 Ping.Exp Start owner process 1 queue []\n"
started_and_waits = simp (digit 0 (omega arith), digit 1 (omega arith), digit 3 (omega arith), digit 7 (omega arith), two_digits 16 (omega arith) (omega arith)) refl

-- an endpoint is sent to itself
abbrev itself : ContractModel
itself = record {
  name = codes "W";
  parts = record {
    first = record { 0 = 0 };
    states = state 0 (codes "S") ∷ state 1 (codes "E") ∷ [];
    messages = message 0 (codes "M") Out ∷ [];
    edges = edge 0 0 sign.Send 1 ∷ [];
  };
}

abbrev sends_an_end : ProgramModel
sends_an_end = program itself ((importing ∷ []) ∷ []) (main (opens 5 ∷ sends 6 3 1 0 (mention 0 6 9 ∷ []) ∷ deletes 1 ∷ []) (at 8 1) ∷ [])

pub end_sent : printed sends_an_end (replicate 4 (event 0))
    ≡ codes "steps 4\nstop: end of schedule\nprocess 0 ended\nblock 0 W.Imp S owner queue 0 queue [M(0)]\nblock 1 W.Exp freed\n"
end_sent = simp (digit 0 (omega arith), digit 1 (omega arith), digit 4 (omega arith)) refl

-- A struct is made of an end; then that end and the other one change places.
abbrev exchanges_ends : ProgramModel
exchanges_ends = program itself ([] ∷ []) (main
    (opens 5 ∷ makes 6 10 (mention 0 6 20 ∷ [])
    ∷ acts (does.Exchange record { place = at 7 3; holder = mention 2 7 12; field = 0; given = mention 1 7 17 })
    ∷ deletes 2 ∷ deletes 1 ∷ []) (at 10 1) ∷ [])

pub end_goes_in : printed exchanges_ends (replicate 2 (event 0))
    ≡ codes "steps 2\nstop: end of schedule\nprocess 0 at 7:3, frames 1\nblock 0 W.Imp S owner block 2 queue []\n"
    ++ codes "block 1 W.Exp S owner process 0 queue []\nblock 2 D owner process 0 holds [0]\n"
end_goes_in = simp (digit 0 (omega arith), digit 1 (omega arith), digit 2 (omega arith), digit 3 (omega arith), digit 7 (omega arith)) refl

pub ends_change_places : printed exchanges_ends (replicate 3 (event 0))
    ≡ codes "steps 3\nstop: end of schedule\nprocess 0 at 1:1, frames 1\nblock 0 W.Imp S owner process 0 queue []\n"
    ++ codes "block 1 W.Exp S owner block 2 queue []\nblock 2 D owner process 0 holds [1]\n"
ends_change_places = simp (digit 0 (omega arith), digit 1 (omega arith), digit 2 (omega arith), digit 3 (omega arith)) refl

pub other_end_goes : printed exchanges_ends (replicate 4 (event 0))
    ≡ codes "steps 4\nstop: end of schedule\nprocess 0 at 1:1, frames 1\nblock 0 W.Imp S owner process 0 queue []\n"
    ++ codes "block 1 W.Exp freed\nblock 2 D freed\n"
other_end_goes = simp (digit 0 (omega arith), digit 1 (omega arith), digit 2 (omega arith), digit 4 (omega arith)) refl

-- blocks inside blocks, and an end among them
abbrev struct_of : ℕ → Owner → List ℕ → Block
struct_of n owner fields = record { ty = Struct record { 0 = n }; owner = owner; peer = 0; state = 0; queue = []; fields = fields }

abbrev nested : World
nested = record {
  processes = [] ∷ [];
  blocks =
      struct_of 0 (Process 0) (2 ∷ 1 ∷ [])
      ∷ record { ty = importing; owner = Inside 0; peer = 3; state = 0; queue = []; fields = [] }
      ∷ struct_of 0 (Inside 0) []
      ∷ struct_of 0 Freed []
      ∷ [];
}

pub nested_lines : world_lines (record { program = sends_an_end; structs = codes "D" ∷ [] })
    (map (position sends_an_end) nested.processes) nested.blocks
    ≡ codes "process 0 ended\nblock 0 D owner process 0 holds [2,1]\nblock 1 W.Imp S owner block 0 queue []\n"
    ++ codes "block 2 D owner block 0\nblock 3 D freed\n"
nested_lines = simp (digit 0 (omega arith), digit 1 (omega arith), digit 2 (omega arith), digit 3 (omega arith)) refl
