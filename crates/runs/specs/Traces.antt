-- Traces: runs along given events.
use Rattle.std.specs.Prelude.{◌≡◌, ◌≤◌, ℕ, List, length, take}
use Rattle.machine.specs.Outcomes.{QueueBounds}
use Rattle.machine.specs.Replays.{IsReplay, ReplayModel}
use Rattle.machine.specs.Runs.{AreBounds}
use Rattle.machine.specs.Views.{world_model}
use Rattle.machine.specs.declared.halts.Event.{Event}
use Rattle.replays.specs.EventLines.{TraceWords}
use Rattle.replays.specs.Journals.{IsJournal}
use Rattle.runs.specs.declared.following.Trace.{Trace}

-- a trace as a replay: its world, the number of its events, and why it stopped
abbrev pub trace_replay : Trace → ReplayModel
trace_replay r = record { world = world_model r.journal.world; steps = length r.journal.events.items; halt = r.halt }

-- a run from the beginning of a method that replays these events, and whose journal has those that were steps
pub record IsTraceOf (t : TraceWords) (m : ℕ) (events : List Event) (r : Trace) : Type 0 where
  pub journal : IsJournal t m r.journal
  pub steps : r.journal.events.items ≡ take (length r.journal.events.items) events
  pub few : length r.journal.events.items ≤ length events
  pub replay : (bound : QueueBounds) → AreBounds t.words.program bound → IsReplay t.words.program bound m events (trace_replay r)
