-- Events and runs of the machine over statements.
use Rattle.std.specs.Prelude.{◌≡◌, ℕ, nat_lt, List, [], ◌∷◌, ◌++◌, if◌then◌else◌}
use Rattle.program.specs.Programs.{ProgramModel}
use Rattle.machine.specs.Outcomes.{QueueBounds}
use Rattle.machine.specs.declared.halts.Event.{Event}
use Rattle.semantics.specs.Steps.{outcome_from}
use Rattle.semantics.specs.Worlds.{Frame, World, Outcome, Moved, NoProcess, NoChoice, choices, frame_at_entry, stack_at}

-- the outcome of an event of a process with these frames
abbrev pub outcome_in : ProgramModel → QueueBounds → World → Event → List Frame → Outcome
outcome_in p bound w e [] = NoProcess
outcome_in p bound w e (f ∷ rest) =
    if nat_lt e.choice (choices f.rest) then outcome_from p bound w e.process f rest f.rest e.choice else NoChoice

-- the outcome of an event in a world
abbrev pub event_outcome : ProgramModel → QueueBounds → World → Event → Outcome
event_outcome p bound w e = outcome_in p bound w e (stack_at w.processes e.process)

-- the world in which one process begins with a method
abbrev pub start_of : ProgramModel → ℕ → World
start_of p m = record { processes = (frame_at_entry p m [] ∷ []) ∷ []; blocks = [] }

-- exactly these events lead from one world to the other
pub data RunsTo (p : ProgramModel) (bound : QueueBounds) (w : World) : List Event → World → Type 0 where
  stays : RunsTo p bound w [] w
  moves : (events : List Event) (v u : World) (e : Event) → RunsTo p bound w events v → event_outcome p bound v e ≡ Moved u →
      RunsTo p bound w (events ++ e ∷ []) u

-- events lead from the beginning of a method to this world
pub data Run (p : ProgramModel) (bound : QueueBounds) (m : ℕ) : World → Type 0 where
  begins : Run p bound m (start_of p m)
  goes_on : (w v : World) (e : Event) → Run p bound m w → event_outcome p bound w e ≡ Moved v → Run p bound m v
