-- What a replay of events yields.
use Rattle.std.specs.Prelude.{◌≡◌, ℕ, List, length, take, Option, None, Some, Err, slice_get}
use Rattle.program.specs.Programs.{ProgramModel}
use Rattle.machine.specs.Machine.{event_outcome}
use Rattle.machine.specs.Outcomes.{QueueBounds, TellsStep}
use Rattle.machine.specs.Places.{process_place}
use Rattle.machine.specs.Runs.{RunsTo, start_of}
use Rattle.machine.specs.Views.{world_model}
use Rattle.machine.specs.World.{World}
use Rattle.machine.specs.declared.halts.Event.{Event}
use Rattle.machine.specs.declared.halts.Halt.{Halt}
use Rattle.machine.specs.declared.halts.Halt.TheVariants as halt
use Rattle.machine.specs.declared.replaying.Replayed.{Replayed}

-- the event after these steps is no step of the world, for this reason
pub record Halts (p : ProgramModel) (bound : QueueBounds) (w : World) (events : List Event) (steps : ℕ) (why : Halt) : Type 0 where
  pub event : Event
  pub there : slice_get events steps ≡ Some event
  pub tells : TellsStep {X = Unit {0}} (Err why) (event_outcome p bound w event) (process_place p w event.process) w

-- either all events were steps, or the one after these steps was none, for this reason
abbrev pub EndsWith : ProgramModel → QueueBounds → World → List Event → (steps : ℕ) → Option Halt → Type 0
EndsWith p bound w events steps None = steps ≡ length events
EndsWith p bound w events steps (Some why) = Halts p bound w events steps why

-- what may end a replay; running out of memory may not
abbrev pub MayEndReplay : Option Halt → Type 0
MayEndReplay None = Unit {0}
MayEndReplay (Some halt.NoSuchProcess) = Unit {0}
MayEndReplay (Some halt.NoSuchChoice) = Unit {0}
MayEndReplay (Some (halt.Fault fault at)) = Unit {0}
MayEndReplay (Some halt.Waits) = Unit {0}
MayEndReplay (Some halt.Memory) = ⊥

-- a replay as a value: the world that it reached, the number of steps, and why it stopped
pub record ReplayModel : Type 0 where
  pub world : World
  pub steps : ℕ
  pub halt : Option Halt

abbrev pub replay_model : Replayed → ReplayModel
replay_model r = record { world = world_model r.world; steps = r.steps; halt = r.halt }

-- the first events lead from the beginning of a method to this world, and the replay stops there for this reason
pub record IsReplay (p : ProgramModel) (bound : QueueBounds) (m : ℕ) (events : List Event) (r : ReplayModel) : Type 0 where
  pub leads : RunsTo p bound (start_of p m) (take r.steps events) r.world
  pub ends : EndsWith p bound r.world events r.steps r.halt
  pub known : MayEndReplay r.halt
