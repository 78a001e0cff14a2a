-- What an empty report promises of the program of a text, and what holds of every replay, whatever is found in the methods.
use Rattle.std.specs.Prelude.{◌≡◌, ◌≢◌, ℕ, List, Some, take}
use Rattle.source.specs.declared.place.Place.{Place}
use Rattle.tree.specs.Trees.{ItemTree}
use Rattle.program.specs.Programs.{ProgramModel}
use Rattle.wellformed.specs.Told.{program_told}
use Rattle.machine.specs.Outcomes.{QueueBounds}
use Rattle.machine.specs.Runs.{AreBounds}
use Rattle.machine.specs.declared.halts.Fault.{Fault}
use Rattle.machine.specs.declared.halts.Fault.TheVariants.{F6}
use Rattle.machine.specs.declared.halts.Halt.TheVariants as halt
use Rattle.semantics.specs.Events.{RunsTo, Run, start_of}
use Rattle.semantics.specs.Worlds.{World}
use Rattle.sound.specs.Premises.{IsEntry}
use Rattle.sound.specs.Queues.{IsBounded}
use Rattle.sound.specs.Safe.{IsSafe}
use Rattle.devices.specs.declared.fault.Status.{Status}
use Rattle.devices.specs.declared.fault.Status.TheVariants.{Empty, Found}
use Rattle.singcheck.specs.Answers.{AreFindings, IsProgram}
use Rattle.singcheck.specs.Reports.{IsReportOf}
use Rattle.singcheck.specs.Checks.{Checks}
use Rattle.singcheck.specs.Replays.{IsRan}

-- each world that a run from a method of IsEntry reaches is safe, in whatever order processes take
-- their turns, if the queues have the bounds of their contracts
pub record RunsAreSafe (p : ProgramModel) : Type 0 where
  pub each : (bound : QueueBounds) → AreBounds p bound → (n : ℕ) (w : World) → IsEntry p n → Run p bound n w → IsSafe p bound w

-- if the text is a program, every run of what it yields is safe
abbrev pub IsSafeText : List ℕ → Type 0
IsSafeText text = (items : List ItemTree) → IsProgram text items → RunsAreSafe (program_told (record { text = text; items = items }))

-- `check` finds nothing in the text
abbrev pub HasEmptyReport : List ℕ → Type 0
HasEmptyReport text = (bytes : List ℕ) × Checks text bytes Empty

-- a replay was printed that does not stop with a fault
pub record RunsSafely (entry schedule text bytes : List ℕ) (status : Status) : Type 0 where
  pub ran : IsRan entry schedule text bytes status
  pub no_fault : (fault : Fault) (at : Place) → ran.halt ≢ Some (halt.Fault fault at)

-- A replay was printed that keeps the bounds of its contracts: it does not stop at a send past a
-- bound, and in each world on its way each queue is a walk of its contract and no longer than its
-- bound.
pub record KeepsBounds (entry schedule text bytes : List ℕ) (status : Status) : Type 0 where
  pub ran : IsRan entry schedule text bytes status
  pub no_overflow : (at : Place) → ran.halt ≢ Some (halt.Fault F6 at)
  pub bounded : (bound : QueueBounds) → AreBounds ran.program bound → (k : ℕ) (w : World)
      → RunsTo ran.program bound (start_of ran.program ran.n) (take k ran.events) w → IsBounded ran.program bound w

-- what `replay` returns, whatever `check` finds: the findings before the methods, or a replay that keeps the bounds
pub data ReplaysWithinBounds (entry schedule text bytes : List ℕ) (status : Status) : Type 0 where
  Reported : IsReportOf (AreFindings text) bytes → status ≡ Found → ReplaysWithinBounds entry schedule text bytes status
  Kept : KeepsBounds entry schedule text bytes status → ReplaysWithinBounds entry schedule text bytes status
