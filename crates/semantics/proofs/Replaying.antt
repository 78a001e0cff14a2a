-- A replay over graphs is one over statements, and the other way round.
use Rattle.std.proofs.Common.{◌≡◌, ℕ, suc, List, [], ◌∷◌, length, map, refl, sym, ap, ap₂, ◌∙◌, subst, Some, None, take}
use Rattle.std.specs.Prelude.{Option, Err}
use Rattle.std.specs.Option.{option_map}
use Rattle.source.specs.declared.place.Place.{Place}
use Rattle.program.specs.Programs.{ProgramModel}
use Rattle.program.specs.Statements as stated
use Rattle.flow.specs.Graphs.{Instruction}
use Rattle.semantics.specs.Laid.{IsAt}
use Rattle.semantics.specs.Rests.{Rest, Act, New, Send, Switch, If, While, Forget, Call, Start, Return, Stop, Missing}
use Rattle.machine.specs.Machine as graph
use Rattle.machine.specs.Outcomes.{QueueBounds, TellsStep}
use Rattle.machine.specs.Outcomes as outcomes
use Rattle.machine.specs.Places as graph_places
use Rattle.machine.specs.Replays as graph_replays
use Rattle.machine.specs.World as graph_world
use Rattle.machine.specs.declared.halts.Event.{Event}
use Rattle.machine.specs.declared.halts.Halt.{Halt}
use Rattle.machine.specs.declared.halts.Halt.TheVariants as halt
use Rattle.semantics.proofs.Running.{event_alike, graph_run, stated_run}
use Rattle.semantics.proofs.Stacks.{stack_same}
use Rattle.semantics.specs.Events.{event_outcome}
use Rattle.semantics.specs.Places.{place_of, position, process_place, stack_place}
use Rattle.semantics.specs.Replays.{EndsWith, IsHalt, IsReplay}
use Rattle.semantics.specs.Same.{AreStacks, AreWaiting, IsOutcome, IsStack, IsWorld}
use Rattle.semantics.specs.Worlds.{Faulty, Frame, Moved, NoChoice, NoProcess, Outcome, Waits, World, stack_at}

-- the place of what is still to do is that of the instruction
same_place : (at : ℕ → Option Instruction) (point : ℕ) (r : Rest) → IsAt at point r
    → option_map graph_places.place_of (at point) ≡ place_of r
same_place at point (Act action next) h = ap (option_map graph_places.place_of) h.1.0
same_place at point (New target arguments next) h = ap (option_map graph_places.place_of) h.1.0
same_place at point (Send place endpoint message payloads next) h = ap (option_map graph_places.place_of) h.1.0
same_place at point (Switch place arms) h = ap (option_map graph_places.place_of) h.1.0
same_place at point (If place ways inside past) h = ap (option_map graph_places.place_of) h.1.1.0
same_place at point (While (stated.Test place mentions ways body) next) h = ap (option_map graph_places.place_of) h.1.1.1.1.0
same_place at point (Forget forget next) h = ap (option_map graph_places.place_of) h.1.0
same_place at point (Call place method arguments target next) h = ap (option_map graph_places.place_of) h.1.0
same_place at point (Start place method arguments next) h = ap (option_map graph_places.place_of) h.1.0
same_place at point (Return place value scope) h = ap (option_map graph_places.place_of) h
same_place at point (Stop place) h = ap (option_map graph_places.place_of) h
same_place at point Missing h = ap (option_map graph_places.place_of) h

module _ (p : ProgramModel) where
  pub stack_place_same : (fs : List graph_world.Frame) (ss : List Frame) → IsStack p fs ss → graph_places.stack_place p fs ≡ stack_place ss
  stack_place_same [] [] h = refl
  stack_place_same [] (t ∷ ts) h = absurd h
  stack_place_same (f ∷ gs) [] h = absurd h
  stack_place_same (f ∷ gs) (t ∷ ts) h =
      ap (graph_places.frame_place p) h.0.is ∙ same_place _ f.point t.rest h.0.stands

  pub place_same : (w : graph_world.World) (s : World) → IsWorld p w s → (q : ℕ) → graph_places.process_place p w q ≡ process_place s q
  place_same w s h q =
      stack_place_same (graph_world.stack_at w.processes q) (stack_at s.processes q) (stack_same p w.processes s.processes h.processes q)

  -- ---- where processes are
  waiting_long : (fs : List graph_world.Frame) (ss : List Frame) → AreWaiting p fs ss → length fs ≡ length ss
  waiting_long [] [] h = refl
  waiting_long [] (t ∷ ts) h = absurd h
  waiting_long (f ∷ gs) [] h = absurd h
  waiting_long (f ∷ gs) (t ∷ ts) h = ap suc (waiting_long gs ts h.1.1)

  stack_long : (fs : List graph_world.Frame) (ss : List Frame) → IsStack p fs ss → length fs ≡ length ss
  stack_long [] [] h = refl
  stack_long [] (t ∷ ts) h = absurd h
  stack_long (f ∷ gs) [] h = absurd h
  stack_long (f ∷ gs) (t ∷ ts) h = ap suc (waiting_long gs ts h.1)

  abbrev graph_position : List graph_world.Frame → ℕ × Option Place
  graph_position stack = (length stack, graph_places.stack_place p stack)

  pub positions_same : (fs : List (List graph_world.Frame)) (ss : List (List Frame)) → AreStacks p fs ss
      → map graph_position fs ≡ map position ss
  positions_same [] [] h = refl
  positions_same [] (t ∷ ts) h = absurd h
  positions_same (f ∷ gs) [] h = absurd h
  positions_same (f ∷ gs) (t ∷ ts) h =
      ap₂ (λ (x : ℕ × Option Place) (l : List (ℕ × Option Place)). x ∷ l)
      (ap₂ (λ (n : ℕ) (at : Option Place). (n, at)) (stack_long f t h.0) (stack_place_same f t h.0)) (positions_same gs ts h.1)

  -- ---- what is no step in one is none in the other
  faulty_here : (x : outcomes.Outcome) (o : Outcome) → IsOutcome p x o → (why : Halt) (place : Option Place) (w : graph_world.World)
      → graph_replays.MayEndReplay (Some why) → TellsStep {X = Unit {0}} (Err why) x place w → IsHalt why o place
  faulty_here x o h halt.NoSuchProcess place w known tells =
      by o (subst (λ (y : outcomes.Outcome). IsOutcome p y o) tells h)
    where
      by : (o : Outcome) → IsOutcome p outcomes.NoProcess o → o ≡ NoProcess
      by NoProcess h = refl
      by (Moved v) h = absurd h
      by (Faulty y) h = absurd h
      by Waits h = absurd h
      by NoChoice h = absurd h
  faulty_here x o h halt.NoSuchChoice place w known tells =
      by o (subst (λ (y : outcomes.Outcome). IsOutcome p y o) tells h)
    where
      by : (o : Outcome) → IsOutcome p outcomes.NoChoice o → o ≡ NoChoice
      by NoChoice h = refl
      by (Moved v) h = absurd h
      by (Faulty y) h = absurd h
      by Waits h = absurd h
      by NoProcess h = absurd h
  faulty_here x o h (halt.Fault fault at) place w known tells =
      (by o (subst (λ (y : outcomes.Outcome). IsOutcome p y o) tells.0 h), tells.1)
    where
      by : (o : Outcome) → IsOutcome p (outcomes.Faulty fault) o → o ≡ Faulty fault
      by (Faulty y) h = ap Faulty (sym h)
      by (Moved v) h = absurd h
      by Waits h = absurd h
      by NoProcess h = absurd h
      by NoChoice h = absurd h
  faulty_here x o h halt.Waits place w known tells =
      by o (subst (λ (y : outcomes.Outcome). IsOutcome p y o) tells h)
    where
      by : (o : Outcome) → IsOutcome p outcomes.Waits o → o ≡ Waits
      by Waits h = refl
      by (Moved v) h = absurd h
      by (Faulty y) h = absurd h
      by NoProcess h = absurd h
      by NoChoice h = absurd h
  faulty_here x o h halt.Memory place w known tells = absurd known

  faulty_there : (x : outcomes.Outcome) (o : Outcome) → IsOutcome p x o → (why : Halt) (place : Option Place) (w : graph_world.World)
      → IsHalt why o place → TellsStep {X = Unit {0}} (Err why) x place w
  faulty_there x o h halt.NoSuchProcess place w is = by x (subst (λ (y : Outcome). IsOutcome p x y) is h)
    where
      by : (x : outcomes.Outcome) → IsOutcome p x NoProcess → x ≡ outcomes.NoProcess
      by outcomes.NoProcess h = refl
      by (outcomes.Moved v) h = absurd h
      by (outcomes.Faulty y) h = absurd h
      by outcomes.Waits h = absurd h
      by outcomes.NoChoice h = absurd h
  faulty_there x o h halt.NoSuchChoice place w is = by x (subst (λ (y : Outcome). IsOutcome p x y) is h)
    where
      by : (x : outcomes.Outcome) → IsOutcome p x NoChoice → x ≡ outcomes.NoChoice
      by outcomes.NoChoice h = refl
      by (outcomes.Moved v) h = absurd h
      by (outcomes.Faulty y) h = absurd h
      by outcomes.Waits h = absurd h
      by outcomes.NoProcess h = absurd h
  faulty_there x o h (halt.Fault fault at) place w is = (by x (subst (λ (y : Outcome). IsOutcome p x y) is.0 h), is.1)
    where
      by : (x : outcomes.Outcome) → IsOutcome p x (Faulty fault) → x ≡ outcomes.Faulty fault
      by (outcomes.Faulty y) h = ap outcomes.Faulty h
      by (outcomes.Moved v) h = absurd h
      by outcomes.Waits h = absurd h
      by outcomes.NoProcess h = absurd h
      by outcomes.NoChoice h = absurd h
  faulty_there x o h halt.Waits place w is = by x (subst (λ (y : Outcome). IsOutcome p x y) is h)
    where
      by : (x : outcomes.Outcome) → IsOutcome p x Waits → x ≡ outcomes.Waits
      by outcomes.Waits h = refl
      by (outcomes.Moved v) h = absurd h
      by (outcomes.Faulty y) h = absurd h
      by outcomes.NoProcess h = absurd h
      by outcomes.NoChoice h = absurd h
  faulty_there x o h halt.Memory place w is = absurd is

  may_end : (why : Halt) (o : Outcome) (place : Option Place) → IsHalt why o place → graph_replays.MayEndReplay (Some why)
  may_end halt.NoSuchProcess o place is = tt
  may_end halt.NoSuchChoice o place is = tt
  may_end (halt.Fault fault at) o place is = tt
  may_end halt.Waits o place is = tt
  may_end halt.Memory o place is = absurd is

  module _ (bound : QueueBounds) where
    ends_alike : (w : graph_world.World) (s : World) → IsWorld p w s → (events : List Event) (steps : ℕ) (why : Option Halt)
        → graph_replays.MayEndReplay why → graph_replays.EndsWith p bound w events steps why → EndsWith p bound s events steps why
    ends_alike w s h events steps None known ends = ends
    ends_alike w s h events steps (Some why) known ends = record {
      event = ends.event;
      there = ends.there;
      halts =
          subst (λ (place : Option Place). IsHalt why (event_outcome p bound s ends.event) place) (place_same w s h ends.event.process)
          (faulty_here (graph.event_outcome p bound w ends.event) (event_outcome p bound s ends.event) (event_alike p bound w s h ends.event)
          why (graph_places.process_place p w ends.event.process) w known ends.tells);
    }

    pub replay_alike : (m : ℕ) (events : List Event) (r : graph_replays.ReplayModel) → graph_replays.IsReplay p bound m events r
        → (s : World) × (IsReplay p bound m events r.steps r.halt s × IsWorld p r.world s)
    replay_alike m events r is =
        let k = stated_run p bound m (take r.steps events) r.world is.leads in
        (k.0, (record { leads = k.1.0; ends = ends_alike r.world k.0 k.1.1 events r.steps r.halt is.known is.ends }, k.1.1))

    ends_too : (w : graph_world.World) (s : World) → IsWorld p w s → (events : List Event) (steps : ℕ) (why : Option Halt)
        → EndsWith p bound s events steps why
        → graph_replays.EndsWith p bound w events steps why × graph_replays.MayEndReplay why
    ends_too w s h events steps None ends = (ends, tt)
    ends_too w s h events steps (Some why) ends = (
      record {
        event = ends.event;
        there = ends.there;
        tells =
            faulty_there (graph.event_outcome p bound w ends.event) (event_outcome p bound s ends.event) (event_alike p bound w s h ends.event)
            why (graph_places.process_place p w ends.event.process) w
            (subst (λ (place : Option Place). IsHalt why (event_outcome p bound s ends.event) place)
            (sym (place_same w s h ends.event.process)) ends.halts);
      },
      may_end why (event_outcome p bound s ends.event) (process_place s ends.event.process) ends.halts,
    )

    pub replay_too : (m : ℕ) (events : List Event) (steps : ℕ) (why : Option Halt) (s : World) → IsReplay p bound m events steps why s
        → (w : graph_world.World)
        × (graph_replays.IsReplay p bound m events (record { world = w; steps = steps; halt = why }) × IsWorld p w s)
    replay_too m events steps why s is =
        let k = graph_run p bound m (take steps events) s is.leads in
        let ends = ends_too k.0 s k.1.1 events steps why is.ends in
        (k.0, (record { leads = k.1.0; ends = ends.0; known = ends.1 }, k.1.1))
