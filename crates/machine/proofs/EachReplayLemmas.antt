-- Any events have a replay.
use Rattle.std.proofs.Common.{◌≡◌, ℕ, zero, suc, ◌+◌, ◌⊎◌, inl, inr, List, [], ◌∷◌, length, take, Option, None, Some, Err, refl, sym}
use Rattle.std.proofs.Common.{subst, arith, ⊎_elim}
use Rattle.std.specs.Option.{option_map}
use Rattle.std.specs.Prelude.{get_or}
use Rattle.std.proofs.lemmas.List.{take_more}
use Rattle.std.proofs.lemmas.Option.{slice_get-get_or}
use Rattle.source.specs.declared.place.Place.{Place}
use Rattle.program.specs.Programs.{ProgramModel}
use Rattle.flow.specs.Graphs.{Instruction}
use Rattle.machine.specs.Frames.{instruction_at}
use Rattle.machine.specs.Machine.{outcome_of, outcome_in, event_outcome}
use Rattle.machine.specs.Outcomes.{QueueBounds, Outcome, Moved, Faulty, Waits, NoProcess, NoChoice, TellsStep}
use Rattle.machine.specs.Places.{place_of, process_place, stack_place}
use Rattle.machine.specs.Replays.{MayEndReplay, IsReplay, ReplayModel}
use Rattle.machine.specs.Runs.{RunsTo, moves, start_of, stays}
use Rattle.machine.specs.World.{Frame, World, stack_at}
use Rattle.machine.specs.declared.halts.Event.{Event}
use Rattle.machine.specs.declared.halts.Fault.{Fault}
use Rattle.machine.specs.declared.halts.Halt.{Halt}
use Rattle.machine.specs.declared.halts.Halt.TheVariants as halt

-- the instruction of a fault has a place
place_at : (p : ProgramModel) (bound : QueueBounds) (w : World) (e : Event) (fault : Fault) (f : Frame) (rest : List Frame)
    (i : Option Instruction)
    → outcome_of p bound w e f rest i ≡ Faulty fault → (at : Place) × (option_map place_of i ≡ Some at)
place_at p bound w e fault f rest None is = absurd (cc)
place_at p bound w e fault f rest (Some i) is = (place_of i, refl)

place_in : (p : ProgramModel) (bound : QueueBounds) (w : World) (e : Event) (fault : Fault) (stack : List Frame)
    → outcome_in p bound w e stack ≡ Faulty fault → (at : Place) × (stack_place p stack ≡ Some at)
place_in p bound w e fault [] is = absurd (cc)
place_in p bound w e fault (f ∷ rest) is = place_at p bound w e fault f rest (instruction_at p f) is

-- why an event is no step in a world
record IsStopped (p : ProgramModel) (bound : QueueBounds) (w : World) (e : Event) : Type 0 where
  pub why : Halt
  pub tells : TellsStep {X = Unit {0}} (Err why) (event_outcome p bound w e) (process_place p w e.process) w
  pub known : MayEndReplay (Some why)

-- an event is a step, or there is a reason why it is none
step_or_stop : (p : ProgramModel) (bound : QueueBounds) (w : World) (e : Event) (o : Outcome) → event_outcome p bound w e ≡ o
    → ((v : World) × (event_outcome p bound w e ≡ Moved v)) ⊎ IsStopped p bound w e
step_or_stop p bound w e (Moved v) is = inl (v, is)
step_or_stop p bound w e (Faulty f) is =
    let place = place_in p bound w e f (stack_at w.processes e.process) is in
    inr (record { why = halt.Fault f place.0; tells = (is, place.1); known = tt })
step_or_stop p bound w e Waits is = inr (record { why = halt.Waits; tells = is; known = tt })
step_or_stop p bound w e NoProcess is = inr (record { why = halt.NoSuchProcess; tells = is; known = tt })
step_or_stop p bound w e NoChoice is = inr (record { why = halt.NoSuchChoice; tells = is; known = tt })

-- the event that is read past the end of a list
abbrev no_event : Event
no_event = record { process = 0; choice = 0 }

-- a replay, given that this many steps were taken and this many events are left
replay_from : (p : ProgramModel) (bound : QueueBounds) (m : ℕ) (events : List Event) (left steps : ℕ) (w : World) → steps + left ≡ length events
    → RunsTo p bound (start_of p m) (take steps events) w → (r : ReplayModel) × IsReplay p bound m events r
replay_from p bound m events zero steps w all led =
    let ended : steps ≡ length events = omega arith in
    (record { world = w; steps = steps; halt = None }, record { leads = led; ends = ended; known = tt })
replay_from p bound m events (suc left) steps w all led =
    let e = get_or events steps no_event in
    ⊎_elim
    (λ moved. replay_from p bound m events left (steps + 1) moved.0 (omega arith)
    (subst (λ taken. RunsTo p bound (start_of p m) taken moved.0) (sym (take_more events steps no_event (omega arith)))
    (moves (take steps events) w moved.0 e led moved.1)))
    (λ stopped. (
      record { world = w; steps = steps; halt = Some stopped.why },
      record {
        leads = led;
        ends = record { event = e; there = slice_get-get_or events steps no_event (omega arith); tells = stopped.tells };
        known = stopped.known;
      },
    ))
    (step_or_stop p bound w e (event_outcome p bound w e) refl)

pub each_replay : (p : ProgramModel) (bound : QueueBounds) (m : ℕ) (events : List Event) → (r : ReplayModel) × IsReplay p bound m events r
each_replay p bound m events = replay_from p bound m events (length events) 0 (start_of p m) (omega arith) stays
