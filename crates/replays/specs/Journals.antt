-- Journals: the events that lead from the beginning of a method to a world, and their lines.
use Rattle.std.specs.Prelude.{◌≡◌, ◌+◌, ℕ, List, [], ◌∷◌, ◌++◌, Err, Some}
use Rattle.source.specs.declared.place.Place.{Place}
use Rattle.program.specs.Programs.{ProgramModel}
use Rattle.machine.specs.Machine.{event_outcome}
use Rattle.machine.specs.Outcomes.{QueueBounds, Faulty, Moved, TellsStep}
use Rattle.machine.specs.Places.{process_place}
use Rattle.machine.specs.Runs.{AreBounds, start_of}
use Rattle.machine.specs.Views.{world_model}
use Rattle.machine.specs.World.{World}
use Rattle.machine.specs.declared.halts.Event.{Event}
use Rattle.machine.specs.declared.halts.Fault.{Fault}
use Rattle.machine.specs.declared.halts.Halt.{Halt}
use Rattle.replays.specs.EventLines.{TraceWords, conditions_in, event_line}
use Rattle.replays.specs.declared.journal.Journal.{Journal}

-- exactly these events lead from one world to the other, these are their lines, and so many of them are conditions that may go either way
pub data HasLines (t : TraceWords) (bound : QueueBounds) (w : World) : List Event → World → List ℕ → ℕ → Type 0 where
  stays : HasLines t bound w [] w [] 0
  moves : (events : List Event) (v u : World) (e : Event) (lines : List ℕ) (conditions : ℕ) → HasLines t bound w events v lines conditions
      → event_outcome t.words.program bound v e ≡ Moved u
      → HasLines t bound w (events ++ e ∷ []) u (lines ++ event_line t v e) (conditions + conditions_in t.words.program v e.process)

-- the journal has the world to which its events lead from the beginning of a method, and their lines
abbrev pub IsJournal : TraceWords → (m : ℕ) → Journal → Type 0
IsJournal t m j = (bound : QueueBounds) → AreBounds t.words.program bound
    → HasLines t bound (start_of t.words.program m) j.events.items (world_model j.world) j.lines.items j.conditions

-- an event of a world is a fault, at this place
pub record IsFaultAt (p : ProgramModel) (bound : QueueBounds) (w : World) (e : Event) (fault : Fault) (at : Place) : Type 0 where
  pub faulty : event_outcome p bound w e ≡ Faulty fault
  pub place : process_place p w e.process ≡ Some at

-- an event of a world is no step, for this reason, whatever the bounds of its queues
abbrev pub IsNoStep : ProgramModel → World → Event → Halt → Type 0
IsNoStep p w e why = (bound : QueueBounds) → AreBounds p bound
    → TellsStep {X = Unit {0}} (Err why) (event_outcome p bound w e) (process_place p w e.process) w
