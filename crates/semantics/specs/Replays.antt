-- What a replay of events yields, for statements.
use Rattle.std.specs.Prelude.{◌≡◌, ℕ, List, length, take, Option, None, Some, slice_get}
use Rattle.source.specs.declared.place.Place.{Place}
use Rattle.program.specs.Programs.{ProgramModel}
use Rattle.machine.specs.Outcomes.{QueueBounds}
use Rattle.machine.specs.declared.halts.Event.{Event}
use Rattle.machine.specs.declared.halts.Halt.{Halt}
use Rattle.machine.specs.declared.halts.Halt.TheVariants as halt
use Rattle.semantics.specs.Events.{RunsTo, event_outcome, start_of}
use Rattle.semantics.specs.Places.{process_place}
use Rattle.semantics.specs.Worlds.{Outcome, Faulty, Waits, NoProcess, NoChoice, World}

-- an outcome is no step for this reason, at this place if it is a fault; running out of memory is none
abbrev pub IsHalt : Halt → Outcome → Option Place → Type 0
IsHalt halt.NoSuchProcess outcome place = outcome ≡ NoProcess
IsHalt halt.NoSuchChoice outcome place = outcome ≡ NoChoice
IsHalt (halt.Fault fault at) outcome place = (outcome ≡ Faulty fault) × (place ≡ Some at)
IsHalt halt.Waits outcome place = outcome ≡ Waits
IsHalt halt.Memory outcome place = ⊥

-- the event after these steps is no step of the world, for this reason
pub record Halts (p : ProgramModel) (bound : QueueBounds) (w : World) (events : List Event) (steps : ℕ) (why : Halt) : Type 0 where
  pub event : Event
  pub there : slice_get events steps ≡ Some event
  pub halts : IsHalt why (event_outcome p bound w event) (process_place w event.process)

-- either all events were steps, or the one after these steps was none, for this reason
abbrev pub EndsWith : ProgramModel → QueueBounds → World → List Event → (steps : ℕ) → Option Halt → Type 0
EndsWith p bound w events steps None = steps ≡ length events
EndsWith p bound w events steps (Some why) = Halts p bound w events steps why

-- the first events lead from the beginning of a method to this world, and the replay stops there for this reason
pub record IsReplay (p : ProgramModel) (bound : QueueBounds) (m : ℕ) (events : List Event) (steps : ℕ) (why : Option Halt) (w : World)
    : Type 0 where
  pub leads : RunsTo p bound (start_of p m) (take steps events) w
  pub ends : EndsWith p bound w events steps why
