-- What `run` and `explore` return for a text and an entry.
use Rattle.std.specs.Prelude.{◌≡◌, ◌≢◌, ◌≤◌, ◌++◌, ◌∷◌, ℕ, Bool, IfSome, List, Option, [], false, get_or, length, true}
use Rattle.std.specs.Global.{Vec}
use Rattle.std.specs.Option.{option_map_or}
use Rattle.source.specs.declared.place.Place.{Place}
use Rattle.tree.specs.Trees.{ItemTree}
use Rattle.program.specs.Programs.{ProgramModel}
use Rattle.machine.specs.Outcomes.{QueueBounds}
use Rattle.machine.specs.Runs.{AreBounds, start_of}
use Rattle.machine.specs.World.{World}
use Rattle.machine.specs.declared.halts.Event.{Event}
use Rattle.machine.specs.declared.halts.Fault as made
use Rattle.replays.specs.EventLines.{TraceWords}
use Rattle.replays.specs.Journals.{HasLines}
use Rattle.replays.specs.RunLines.{run_lines, seed_line}
use Rattle.replays.specs.Schedules.{IsSchedule}
use Rattle.replays.specs.declared.detail.Detail.{Detail}
use Rattle.replays.specs.declared.detail.Detail.TheVariants.{Notable}
use Rattle.replays.specs.declared.end.RunEnd.{RunEnd}
use Rattle.replays.specs.declared.end.RunEnd.TheVariants.{Ended, Deadlock, Fault, Running}
use Rattle.machine.specs.Views.{world_model}
use Rattle.lost.specs.Lost.{IsLost}
use Rattle.runs.specs.Ends.{IsAnEnd}
use Rattle.runs.specs.Tallies.{AreTallies, tallies_lines}
use Rattle.runs.specs.declared.ending.Simulation.{Simulation}
use Rattle.runs.specs.declared.tallies.Tallies.{Tallies}
use Rattle.deadlocks.specs.Deadlocks.{HasNoDeadlock, LeadsToDeadlock}
use Rattle.deadlocks.specs.GraphDeadlocks.{ReachesWorlds}
use Rattle.semantics.specs.Events as meant
use Rattle.semantics.specs.Same.{IsWorld}
use Rattle.semantics.specs.Worlds as meanings
use Rattle.devices.specs.RunFaults.{IsBoundsFault}
use Rattle.devices.specs.declared.fault.RunFault.{RunFault}
use Rattle.devices.specs.declared.fault.RunFault.TheVariants.{Entry, Memory}
use Rattle.devices.specs.declared.fault.Status.{Status}
use Rattle.devices.specs.declared.fault.Status.TheVariants.{Empty, Found}
use Rattle.singcheck.specs.Answers.{AreFindings}
use Rattle.singcheck.specs.Lines.{none_line, unknown_line}
use Rattle.singcheck.specs.Replays.{HasEntry, method_names, struct_names}
use Rattle.singcheck.specs.Reports.{IsReportOf}

-- where the names in the lines of a run come from: the items of the text
abbrev pub run_words : (text : List ℕ) → List ItemTree → ProgramModel → Detail → TraceWords
run_words text items p detail =
    record { words = record { program = p; structs = struct_names text items }; methods = method_names text items; detail = detail }

-- these say for each address of a world whether the block there is lost
pub record AreLost (w : World) (lost : List Bool) : Type 0 where
  pub long : length lost ≡ length w.blocks
  pub right : (a : ℕ) → get_or lost a false ≡ true → IsLost w a
  pub all : (a : ℕ) → IsLost w a → get_or lost a false ≡ true

-- the lines of a run in whose last world these blocks are lost
abbrev pub lines_of_run : TraceWords → Simulation → (lost : List Bool) → List ℕ
lines_of_run t r lost =
    run_lines t (world_model r.journal.world) (length r.journal.events.items) r.journal.lines.items r.journal.conditions r.end lost

-- these are the lines of a run, with the blocks that are lost in its last world
pub record AreLinesOf (t : TraceWords) (r : Simulation) (bytes : List ℕ) : Type 0 where
  pub lost : List Bool
  pub which : AreLost (world_model r.journal.world) lost
  pub are : bytes ≡ lines_of_run t r lost

-- the status of a run: `Found` if it ends in a deadlock or a fault
abbrev pub end_status : RunEnd → Status
end_status Ended = Empty
end_status Deadlock = Found
end_status (Fault e fault at) = Found
end_status Running = Empty

-- these events lead from the entry to a world of statements that is the same as this one of graphs
pub record LeadsToSame (p : ProgramModel) (bound : QueueBounds) (n : ℕ) (events : List Event) (world : World) : Type 0 where
  pub same : meanings.World
  pub leads : meant.RunsTo p bound (meant.start_of p n) events same
  pub is : IsWorld p world same

-- the events of a run that ends so after these events: a fault is one more
abbrev pub all_events : List Event → RunEnd → List Event
all_events events Ended = events
all_events events Deadlock = events
all_events events (Fault e fault at) = events ++ e ∷ []
all_events events Running = events

-- these are the lines of some run from the entry, with its end, and the schedule, if there is one, is read as its events
pub record IsPrintedRun (entry : List ℕ) (detail : Detail) (schedule : Option (Vec ℕ)) (text : List ℕ) (end : RunEnd) (bytes : List ℕ)
    : Type 0 where
  pub program : ProgramModel
  pub n : ℕ
  pub entered : HasEntry text entry program n
  pub events : List Event
  pub lines : List ℕ
  pub conditions : ℕ
  pub world : World
  pub leads : (bound : QueueBounds) → AreBounds program bound
      → HasLines (run_words text entered.has.resolved.items program detail) bound (start_of program n) events world lines conditions
  pub statements : (bound : QueueBounds) → AreBounds program bound → LeadsToSame program bound n events world
  pub ends : IsAnEnd program world end
  pub told : IfSome schedule (λ s. IsSchedule s.items (all_events events end))
  pub lost : List Bool
  pub which : AreLost world lost
  pub are : bytes
      ≡ run_lines (run_words text entered.has.resolved.items program detail) world (length events) lines conditions end lost

-- the lines of some run from the entry, a seed, and how many of several runs ended in each way
pub record IsSeededRun (entry : List ℕ) (detail : Detail) (schedule : Option (Vec ℕ)) (text bytes : List ℕ) (status : Status)
    : Type 0 where
  pub end : RunEnd
  pub lines : List ℕ
  pub seed : ℕ
  pub run : IsPrintedRun entry detail schedule text end lines
  pub tallies : Option Tallies
  pub counted : IfSome tallies (AreTallies (run_words text run.entered.has.resolved.items run.program detail) run.n)
  pub are : bytes ≡ lines ++ (seed_line seed ++ option_map_or tallies_lines tallies [])
  pub is : status ≡ end_status end

-- what `run` returns: the findings before the methods, or a run
pub data RunsAtRandom (entry : List ℕ) (detail : Detail) (schedule : Option (Vec ℕ)) (text bytes : List ℕ) (status : Status)
    : Type 0 where
  OfFindings : IsReportOf (AreFindings text) bytes → status ≡ Found → RunsAtRandom entry detail schedule text bytes status
  OfRun : IsSeededRun entry detail schedule text bytes status → RunsAtRandom entry detail schedule text bytes status

-- a run that does not end in a fault
pub record RunsFaultless (entry : List ℕ) (detail : Detail) (schedule : Option (Vec ℕ)) (text bytes : List ℕ) (status : Status)
    : Type 0 where
  pub run : IsSeededRun entry detail schedule text bytes status
  pub no_fault : (e : Event) (fault : made.Fault) (at : Place) → run.end ≢ Fault e fault at

-- these events lead from a method to a deadlock, and no fewer events do
pub record IsShortest (p : ProgramModel) (bound : QueueBounds) (n : ℕ) (events : List Event) : Type 0 where
  pub leads : LeadsToDeadlock p bound n events
  pub fewest : (others : List Event) → LeadsToDeadlock p bound n others → length events ≤ length others

-- these are the lines of a run from the entry into a deadlock that no fewer events lead to
pub record LocksSoonest (entry : List ℕ) (schedule : Option (Vec ℕ)) (text bytes : List ℕ) : Type 0 where
  pub run : IsPrintedRun entry Notable schedule text Deadlock bytes
  pub soonest : (bound : QueueBounds) → AreBounds run.program bound → IsShortest run.program bound run.n run.events

-- no run from the entry ever reaches a deadlock, and runs from it reach exactly so many worlds
pub record NeverLocks (entry text : List ℕ) (worlds : ℕ) : Type 0 where
  pub program : ProgramModel
  pub n : ℕ
  pub entered : HasEntry text entry program n
  pub none : (bound : QueueBounds) → AreBounds program bound → HasNoDeadlock program bound n
  pub reaches : (bound : QueueBounds) → AreBounds program bound → ReachesWorlds program bound n worlds

-- what `explore` returns if it visits at most `most` worlds: the findings before the methods, a shortest run into a deadlock, that there
-- is none, or that none was found
pub data Explores (entry : List ℕ) (most : ℕ) (schedule : Option (Vec ℕ)) (text bytes : List ℕ) (status : Status) : Type 0 where
  Refused : IsReportOf (AreFindings text) bytes → status ≡ Found → Explores entry most schedule text bytes status
  Locks : LocksSoonest entry schedule text bytes → status ≡ Found → Explores entry most schedule text bytes status
  Whole : (worlds : ℕ) → NeverLocks entry text worlds → bytes ≡ none_line worlds → status ≡ Empty
      → Explores entry most schedule text bytes status
  Unknown : bytes ≡ unknown_line most → status ≡ Empty → Explores entry most schedule text bytes status

-- the fault of `run` and `explore`: they cannot read the text or write, there is no entry, or memory runs out
abbrev pub IsRunningFault : RunFault → Type 0
IsRunningFault Entry = Unit {0}
IsRunningFault fault = IsBoundsFault fault

-- the fault of a run of a text that was read
abbrev pub IsTextRunFault : RunFault → Type 0
IsTextRunFault Entry = Unit {0}
IsTextRunFault Memory = Unit {0}
IsTextRunFault _ = ⊥
