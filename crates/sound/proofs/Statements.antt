-- A world of statements is safe if the world of graphs is that it is the same as.
use Rattle.std.proofs.Common.{◌≡◌, ◌≢◌, ℕ, ◌<◌, ◌≤◌, true, List, [], ◌∷◌, length, refl, sym, ap, ◌∙◌, subst, Some}
use Rattle.std.specs.Prelude.{Option}
use Rattle.program.specs.Lists.{Each}
use Rattle.program.specs.Programs.{ProgramModel}
use Rattle.program.specs.declared.types.Side.{Side}
use Rattle.machine.specs.Frames.{variables_of}
use Rattle.machine.specs.Machine as graph
use Rattle.machine.specs.Outcomes.{QueueBounds}
use Rattle.machine.specs.Outcomes as outcomes
use Rattle.machine.specs.Runs as graph_runs
use Rattle.machine.specs.World as graph_world
use Rattle.machine.specs.World.{Block, block_at, cut_off, is_inside, owns, read}
use Rattle.machine.specs.declared.halts.Fault.{Fault}
use Rattle.semantics.proofs.Running.{event_alike, next_graph, run_of_graphs}
use Rattle.semantics.proofs.Stacks.{stack_same}
use Rattle.semantics.specs.Events.{Run}
use Rattle.sound.specs.GraphSafe as graph_safe
use Rattle.sound.specs.Queues.{IsBounded, IsLiveEnd, QueueIsWalk}
use Rattle.machine.specs.declared.halts.Fault.TheVariants.{F6}
use Rattle.sound.specs.Safe.{FieldsOwn, IsSafe, stands_in, stands_in_frames}
use Rattle.semantics.specs.Same.{AreWaiting, IsFrame, IsOutcome, IsStack, IsWorld}
use Rattle.semantics.specs.Worlds.{Faulty, Frame, Outcome, World, stack_at}

module _ (p : ProgramModel) where
  same_variables : (f : graph_world.Frame) (s : Frame) → IsFrame p f s → f.variables ≡ s.variables
  same_variables f s h = ap (λ (x : graph_world.Frame). x.variables) h.is

  -- ---- what holds of the variables of each frame
  each_waiting : (P : List (Option ℕ) → Type 0) (fs : List graph_world.Frame) (ss : List Frame) → AreWaiting p fs ss
      → Each (λ f. P f.variables) fs → Each (λ s. P s.variables) ss
  each_waiting P [] [] h k = tt
  each_waiting P [] (s ∷ ss) h k = absurd h
  each_waiting P (f ∷ fs) [] h k = absurd h
  each_waiting P (f ∷ fs) (s ∷ ss) h k = (subst P (same_variables f s h.0) k.0, each_waiting P fs ss h.1.1 k.1)

  each_stack : (P : List (Option ℕ) → Type 0) (fs : List graph_world.Frame) (ss : List Frame) → IsStack p fs ss
      → Each (λ f. P f.variables) fs → Each (λ s. P s.variables) ss
  each_stack P [] [] h k = tt
  each_stack P [] (s ∷ ss) h k = absurd h
  each_stack P (f ∷ fs) [] h k = absurd h
  each_stack P (f ∷ fs) (s ∷ ss) h k = (subst P (same_variables f s h.0) k.0, each_waiting P fs ss h.1 k.1)

  -- ---- counts
  same_stands : (a : ℕ) (f : graph_world.Frame) (s : Frame) → IsFrame p f s
      → stands_in (variables_of p f.method) f.variables a ≡ stands_in (variables_of p s.method) s.variables a
  same_stands a f s h = ap (λ (x : graph_world.Frame). stands_in (variables_of p x.method) x.variables a) h.is

  waiting_count : (a : ℕ) (fs : List graph_world.Frame) (ss : List Frame) → AreWaiting p fs ss
      → graph_safe.stands_in_frames p fs a ≡ stands_in_frames p ss a
  waiting_count a [] [] h = refl
  waiting_count a [] (s ∷ ss) h = absurd h
  waiting_count a (f ∷ fs) [] h = absurd h
  waiting_count a (f ∷ fs) (s ∷ ss) h =
      let one = same_stands a f s h.0 in
      let more = waiting_count a fs ss h.1.1 in
      cc

  stack_count : (a : ℕ) (fs : List graph_world.Frame) (ss : List Frame) → IsStack p fs ss
      → graph_safe.stands_in_frames p fs a ≡ stands_in_frames p ss a
  stack_count a [] [] h = refl
  stack_count a [] (s ∷ ss) h = absurd h
  stack_count a (f ∷ fs) [] h = absurd h
  stack_count a (f ∷ fs) (s ∷ ss) h =
      let one = same_stands a f s h.0 in
      let more = waiting_count a fs ss h.1 in
      cc

  both_ended : (fs : List graph_world.Frame) (ss : List Frame) → IsStack p fs ss → ss ≡ [] → fs ≡ []
  both_ended [] ss h e = refl
  both_ended (f ∷ fs) [] h e = absurd h
  both_ended (f ∷ fs) (s ∷ ss) h e = absurd (cc)

  faulty_alike : (o : outcomes.Outcome) (fault : Fault) → IsOutcome p o (Faulty fault) → o ≡ outcomes.Faulty fault
  faulty_alike (outcomes.Faulty x) fault h = ap outcomes.Faulty h
  faulty_alike (outcomes.Moved w) fault h = absurd h
  faulty_alike outcomes.Waits fault h = absurd h
  faulty_alike outcomes.NoProcess fault h = absurd h
  faulty_alike outcomes.NoChoice fault h = absurd h

  module _ (bound : QueueBounds) where
    pub safe_alike : (w : graph_world.World) (s : World) → IsWorld p w s → graph_safe.IsSafe p bound w → IsSafe p bound s
    safe_alike w s h safe = record {
      no_fault = λ e fault is.
          safe.no_fault e fault
          (faulty_alike (graph.event_outcome p bound w e) fault
          (subst (λ (o : Outcome). IsOutcome p (graph.event_outcome p bound w e) o) is (event_alike p bound w s h e)));
      queues = subst (λ (bs : List Block). (a contract : ℕ) (side : Side) → IsLiveEnd bs a contract side → QueueIsWalk p bs a contract side)
          h.blocks safe.queues;
      holds = λ q v a.
          each_stack (λ (xs : List (Option ℕ)). read xs v ≡ Some a → owns s.blocks q a ≡ true) (graph_world.stack_at w.processes q)
          (stack_at s.processes q) (stack_same p w.processes s.processes h.processes q)
          (subst (λ (bs : List Block). Each (λ f. read f.variables v ≡ Some a → owns bs q a ≡ true) (graph_world.stack_at w.processes q))
          h.blocks (safe.holds q v a));
      once = λ q a own.
          sym (stack_count a (graph_world.stack_at w.processes q) (stack_at s.processes q)
          (stack_same p w.processes s.processes h.processes q))
          ∙ safe.once q a (ap (λ (bs : List Block). owns bs q a) h.blocks ∙ own);
      apart = λ q v a b inside.
          each_stack (λ (xs : List (Option ℕ)). read xs v ≢ Some a) (graph_world.stack_at w.processes q) (stack_at s.processes q)
          (stack_same p w.processes s.processes h.processes q)
          (safe.apart q v a b (ap (λ (bs : List Block). is_inside (block_at bs a).owner b) h.blocks ∙ inside));
      fields = subst (λ (bs : List Block). FieldsOwn p bs) h.blocks safe.fields;
      stays_cut_off = λ e v a is short cut.
          let k = next_graph p bound w s v e h is in
          ap (λ (bs : List Block). cut_off bs a) (sym k.1.1.blocks)
          ∙ safe.stays_cut_off e k.0 a k.1.0 (subst (λ (bs : List Block). a < length bs) (sym h.blocks) short)
          (ap (λ (bs : List Block). cut_off bs a) h.blocks ∙ cut);
      ended = λ q a is.
          ap (λ (bs : List Block). owns bs q a) (sym h.blocks)
          ∙ safe.ended q a
          (both_ended (graph_world.stack_at w.processes q) (stack_at s.processes q) (stack_same p w.processes s.processes h.processes q) is);
    }

    pub bounded_alike : (w : graph_world.World) (s : World) → IsWorld p w s → graph_safe.IsBounded p bound w → IsBounded p bound s
    bounded_alike w s h is = record {
      queues = subst (λ (bs : List Block). (a contract : ℕ) (side : Side) → IsLiveEnd bs a contract side → QueueIsWalk p bs a contract side)
          h.blocks is.queues;
      short = subst (λ (bs : List Block). (a contract : ℕ) (side : Side) → IsLiveEnd bs a contract side
          → length (block_at bs a).queue ≤ bound contract side) h.blocks is.short;
      fits = λ e over.
          is.fits e
          (faulty_alike (graph.event_outcome p bound w e) F6
          (subst (λ (o : Outcome). IsOutcome p (graph.event_outcome p bound w e) o) over (event_alike p bound w s h e)));
    }

    pub runs_bounded : (n : ℕ) → ((w : graph_world.World) → graph_runs.Run p bound n w → graph_safe.IsBounded p bound w)
        → (s : World) → Run p bound n s → IsBounded p bound s
    runs_bounded n bounded s r =
        let h = run_of_graphs p bound n s r in
        bounded_alike h.0 s h.1.1 (bounded h.0 h.1.0)

    -- if each world that graphs reach is safe, so is each that statements reach
    pub runs_safe : (n : ℕ) → ((w : graph_world.World) → graph_runs.Run p bound n w → graph_safe.IsSafe p bound w)
        → (s : World) → Run p bound n s → IsSafe p bound s
    runs_safe n safe s r =
        let h = run_of_graphs p bound n s r in
        safe_alike h.0 s h.1.1 (safe h.0 h.1.0)
