-- What `replay --trace` returns for a text, an entry and a schedule.
use Rattle.std.specs.Prelude.{◌≡◌, ◌≢◌, ◌++◌, ℕ, List, Some, take}
use Rattle.source.specs.declared.place.Place.{Place}
use Rattle.machine.specs.Outcomes.{QueueBounds}
use Rattle.machine.specs.Runs.{AreBounds, start_of}
use Rattle.machine.specs.World.{World}
use Rattle.machine.specs.declared.halts.Fault as made
use Rattle.machine.specs.declared.halts.Halt.TheVariants as halt
use Rattle.replays.specs.Journals.{HasLines}
use Rattle.replays.specs.RunLines.{conditions_line}
use Rattle.replays.specs.declared.detail.Detail.{Detail}
use Rattle.devices.specs.declared.fault.Status.{Status}
use Rattle.devices.specs.declared.fault.Status.TheVariants.{Found}
use Rattle.singcheck.specs.Answers.{AreFindings}
use Rattle.singcheck.specs.PrintedRuns.{run_words}
use Rattle.singcheck.specs.Replays.{IsRan}
use Rattle.singcheck.specs.Reports.{IsReportOf}

-- the lines of the events that were steps, what `replay` prints of them, and how many conditions they chose
pub record IsTraced (entry : List ℕ) (detail : Detail) (schedule text bytes : List ℕ) (status : Status) : Type 0 where
  pub replayed : List ℕ
  pub ran : IsRan entry schedule text replayed status
  pub lines : List ℕ
  pub conditions : ℕ
  pub world : World
  pub leads : (bound : QueueBounds) → AreBounds ran.program bound
      → HasLines (run_words text ran.entered.has.resolved.items ran.program detail) bound (start_of ran.program ran.n)
      (take ran.steps ran.events) world lines conditions
  pub are : bytes ≡ lines ++ (replayed ++ conditions_line conditions)

-- what `replay --trace` returns: the findings before the methods, or the replay of the schedule with a line for each event
pub data Traces (entry : List ℕ) (detail : Detail) (schedule text bytes : List ℕ) (status : Status) : Type 0 where
  OfFindings : IsReportOf (AreFindings text) bytes → status ≡ Found → Traces entry detail schedule text bytes status
  OfTrace : IsTraced entry detail schedule text bytes status → Traces entry detail schedule text bytes status

-- a replay was printed that does not stop with a fault
pub record TracesSafely (entry : List ℕ) (detail : Detail) (schedule text bytes : List ℕ) (status : Status) : Type 0 where
  pub traced : IsTraced entry detail schedule text bytes status
  pub no_fault : (fault : made.Fault) (at : Place) → traced.ran.halt ≢ Some (halt.Fault fault at)
