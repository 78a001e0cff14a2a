-- Tallies: how many runs ended in each way.
use Rattle.std.specs.Prelude.{◌≡◌, ◌++◌, ℕ, List, None, Option, Some, [], length}
use Rattle.replays.specs.EventLines.{TraceWords}
use Rattle.replays.specs.RunLines.{tally_line, kind_of}
use Rattle.replays.specs.declared.end.EndKind.{EndKind}
use Rattle.replays.specs.declared.end.EndKind.TheVariants.{Ended, Deadlock, Fault, Running}
use Rattle.runs.specs.Ends.{IsRun}
use Rattle.runs.specs.declared.ending.Simulation.{Simulation}
use Rattle.runs.specs.declared.tallies.Tallies.{Tallies}
use Rattle.runs.specs.declared.tallies.Tally.{Tally}

-- some run from the beginning of a method ends in this way after this many events
pub record HasRun (t : TraceWords) (m : ℕ) (kind : EndKind) (events : ℕ) : Type 0 where
  pub run : Simulation
  pub is : IsRun t m run
  pub ends : kind_of run.end ≡ kind
  pub long : length run.journal.events.items ≡ events

-- if runs were counted, one of them has the length of the shortest
abbrev pub IsTally : (t : TraceWords) (m : ℕ) (kind : EndKind) → Option Tally → Type 0
IsTally t m kind None = Unit {0}
IsTally t m kind (Some tally) = HasRun t m kind tally.events

-- for each way that tallies name there is a run that ends so, after as many events as they say of the shortest
pub record AreTallies (t : TraceWords) (m : ℕ) (all : Tallies) : Type 0 where
  pub ended : IsTally t m Ended all.ended
  pub locked : IsTally t m Deadlock all.locked
  pub faulty : IsTally t m Fault all.faulty
  pub running : IsTally t m Running all.running

-- the line of the runs that ended in this way; nothing if there are none
abbrev pub tally_text : EndKind → Option Tally → List ℕ
tally_text kind None = []
tally_text kind (Some tally) = tally_line kind tally.count tally.events tally.seed

-- a line for each way in which a run ended
abbrev pub tallies_lines : Tallies → List ℕ
tallies_lines all =
    tally_text Ended all.ended ++ (tally_text Deadlock all.locked ++ (tally_text Fault all.faulty ++ tally_text Running all.running))
