-- How a run ends.
use Rattle.std.specs.Prelude.{ℕ, Bool, true, false}
use Rattle.program.specs.Programs.{ProgramModel}
use Rattle.deadlocks.specs.GraphDeadlocks.{IsDeadlock}
use Rattle.deadlocks.specs.Trials.{AllEnded}
use Rattle.machine.specs.Outcomes.{QueueBounds}
use Rattle.machine.specs.Runs.{AreBounds}
use Rattle.machine.specs.World.{World}
use Rattle.replays.specs.EventLines.{TraceWords}
use Rattle.replays.specs.Journals.{IsFaultAt, IsJournal}
use Rattle.replays.specs.declared.end.RunEnd.{RunEnd}
use Rattle.replays.specs.declared.end.RunEnd.TheVariants.{Ended, Deadlock, Fault, Running}
use Rattle.runs.specs.declared.ending.Simulation.{Simulation}
use Rattle.runs.specs.declared.random.Attempt.{Attempt}
use Rattle.runs.specs.declared.random.Attempt.TheVariants.{Taken, Faulty, Idle}
use Rattle.machine.specs.Views.{world_model}

-- a run that has come to this world ends so
abbrev pub EndsSo : ProgramModel → QueueBounds → World → RunEnd → Type 0
EndsSo p bound w Ended = AllEnded w
EndsSo p bound w Deadlock = IsDeadlock p bound w
EndsSo p bound w (Fault e fault at) = IsFaultAt p bound w e fault at
EndsSo p bound w Running = (AllEnded w → ⊥) × (IsDeadlock p bound w → ⊥)

-- the same, whatever bounds the contracts have
abbrev pub IsAnEnd : ProgramModel → World → RunEnd → Type 0
IsAnEnd p w end = (bound : QueueBounds) → AreBounds p bound → EndsSo p bound w end

-- whether a run that ends so fails: in a deadlock or a fault
abbrev pub is_failure : RunEnd → Bool
is_failure Ended = false
is_failure Deadlock = true
is_failure (Fault e fault at) = true
is_failure Running = false

-- a run from the beginning of a method, with its lines, that ends so
pub record IsRun (t : TraceWords) (m : ℕ) (r : Simulation) : Type 0 where
  pub journal : IsJournal t m r.journal
  pub end : IsAnEnd t.words.program (world_model r.journal.world) r.end

-- what an attempt to take an event promises of the world after it
abbrev pub IsAttempt : ProgramModel → World → Attempt → Type 0
IsAttempt p w Taken = Unit {0}
IsAttempt p w (Faulty end) = IsAnEnd p w end
IsAttempt p w Idle = Unit {0}
