-- Runs of both machines match, event by event.
use Rattle.std.proofs.Common.{◌≡◌, ℕ, List, [], ◌∷◌, refl, sym, subst}
use Rattle.program.specs.Programs.{ProgramModel}
use Rattle.machine.specs.Machine as graph
use Rattle.machine.specs.Outcomes.{QueueBounds}
use Rattle.machine.specs.Outcomes as outcomes
use Rattle.machine.specs.Runs as graph_runs
use Rattle.machine.specs.World as graph_world
use Rattle.machine.specs.World.{Block}
use Rattle.machine.specs.declared.halts.Event.{Event}
use Rattle.semantics.proofs.Stacks.{Alike, entry_same, stack_same}
use Rattle.semantics.proofs.Stepping.{step_alike}
use Rattle.semantics.specs.Events.{Run, RunsTo, event_outcome, outcome_in, start_of}
use Rattle.semantics.specs.Events as events
use Rattle.semantics.specs.Same.{AreStacks, IsOutcome, IsStack, IsWorld}
use Rattle.semantics.specs.Worlds.{Frame, Outcome, Moved, Faulty, Waits, NoProcess, NoChoice, World, stack_at}

module _ (p : ProgramModel) (bound : QueueBounds) where
  outcome_alike : (fs : List (List graph_world.Frame)) (ss : List (List Frame)) (bs : List Block) → AreStacks p fs ss → (e : Event)
      → (f : List graph_world.Frame) (s : List Frame) → IsStack p f s
      → Alike p (graph.outcome_in p bound (record { processes = fs; blocks = bs }) e f)
      (outcome_in p bound (record { processes = ss; blocks = bs }) e s)
  outcome_alike fs ss bs same e [] [] h = record { is = tt }
  outcome_alike fs ss bs same e [] (t ∷ ts) h = absurd h
  outcome_alike fs ss bs same e (f ∷ gs) [] h = absurd h
  outcome_alike fs ss bs same e (f ∷ gs) (t ∷ ts) h =
      subst (λ (x : graph_world.Frame). Alike p (graph.outcome_in p bound (record { processes = fs; blocks = bs }) e (x ∷ gs))
      (outcome_in p bound (record { processes = ss; blocks = bs }) e (t ∷ ts))) (sym h.0.is)
      (step_alike p bound fs ss bs e.process t.method f.point t.variables gs ts same h.1 t.rest e.choice h.0.stands)

  -- an event has the same outcome in both worlds
  pub event_alike : (w : graph_world.World) (s : World) → IsWorld p w s → (e : Event)
      → IsOutcome p (graph.event_outcome p bound w e) (event_outcome p bound s e)
  event_alike w s h e =
      subst (λ (bs : List Block). IsOutcome p (graph.event_outcome p bound (record { processes = w.processes; blocks = bs }) e)
      (event_outcome p bound s e)) (sym h.blocks)
      (outcome_alike w.processes s.processes s.blocks h.processes e (graph_world.stack_at w.processes e.process)
      (stack_at s.processes e.process) (stack_same p w.processes s.processes h.processes e.process)).is

  pub starts_alike : (n : ℕ) → IsWorld p (graph_runs.start_of p n) (start_of p n)
  starts_alike n = record { processes = ((entry_same p n [], tt), tt); blocks = refl }

  -- what moves in one moves in the other
  moved_graph : (o : outcomes.Outcome) (v : World) → IsOutcome p o (Moved v)
      → (w : graph_world.World) × ((o ≡ outcomes.Moved w) × IsWorld p w v)
  moved_graph (outcomes.Moved w) v h = (w, (refl, h))
  moved_graph (outcomes.Faulty x) v h = absurd h
  moved_graph outcomes.Waits v h = absurd h
  moved_graph outcomes.NoProcess v h = absurd h
  moved_graph outcomes.NoChoice v h = absurd h

  moved_stated : (o : Outcome) (w : graph_world.World) → IsOutcome p (outcomes.Moved w) o → (v : World) × ((o ≡ Moved v) × IsWorld p w v)
  moved_stated (Moved v) w h = (v, (refl, h))
  moved_stated (Faulty x) w h = absurd h
  moved_stated Waits w h = absurd h
  moved_stated NoProcess w h = absurd h
  moved_stated NoChoice w h = absurd h

  pub next_graph : (w : graph_world.World) (s v : World) (e : Event) → IsWorld p w s → event_outcome p bound s e ≡ Moved v
      → (u : graph_world.World) × ((graph.event_outcome p bound w e ≡ outcomes.Moved u) × IsWorld p u v)
  next_graph w s v e h is = moved_graph (graph.event_outcome p bound w e) v
      (subst (λ (o : Outcome). IsOutcome p (graph.event_outcome p bound w e) o) is (event_alike w s h e))

  pub next_stated : (w u : graph_world.World) (s : World) (e : Event) → IsWorld p w s → graph.event_outcome p bound w e ≡ outcomes.Moved u
      → (v : World) × ((event_outcome p bound s e ≡ Moved v) × IsWorld p u v)
  next_stated w u s e h is = moved_stated (event_outcome p bound s e) u
      (subst (λ (o : outcomes.Outcome). IsOutcome p o (event_outcome p bound s e)) is (event_alike w s h e))

  -- each run of statements is matched by a run of graphs
  pub run_of_graphs : (n : ℕ) (s : World) → Run p bound n s → (w : graph_world.World) × (graph_runs.Run p bound n w × IsWorld p w s)
  run_of_graphs n _ events.begins = (graph_runs.start_of p n, (graph_runs.begins, starts_alike n))
  run_of_graphs n _ (events.goes_on s v e r is) =
      let h = run_of_graphs n s r in
      let k = next_graph h.0 s v e h.1.1 is in
      (k.0, (graph_runs.goes_on h.0 k.0 e h.1.0 k.1.0, k.1.1))

  -- and each run of graphs by one of statements, by the same events
  pub stated_run : (n : ℕ) (es : List Event) (w : graph_world.World) → graph_runs.RunsTo p bound (graph_runs.start_of p n) es w
      → (s : World) × (RunsTo p bound (start_of p n) es s × IsWorld p w s)
  stated_run n _ _ graph_runs.stays = (start_of p n, (events.stays, starts_alike n))
  stated_run n _ _ (graph_runs.moves before v u e r is) =
      let h = stated_run n before v r in
      let k = next_stated v u h.0 e h.1.1 is in
      (k.0, (events.moves before h.0 k.0 e h.1.0 k.1.0, k.1.1))

  -- and each of statements, by the same events, by one of graphs
  pub graph_run : (n : ℕ) (es : List Event) (s : World) → RunsTo p bound (start_of p n) es s
      → (w : graph_world.World) × (graph_runs.RunsTo p bound (graph_runs.start_of p n) es w × IsWorld p w s)
  graph_run n _ _ events.stays = (graph_runs.start_of p n, (graph_runs.stays, starts_alike n))
  graph_run n _ _ (events.moves before t v e r is) =
      let h = graph_run n before t r in
      let k = next_graph h.0 t v e h.1.1 is in
      (k.0, (graph_runs.moves before h.0 k.0 e h.1.0 k.1.0, k.1.1))
