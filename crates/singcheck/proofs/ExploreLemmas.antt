-- Searches of runs: a shortest run into a deadlock, and what is written.
use Rattle.std.proofs.Common.{◌≡◌, ◌∙◌, ◌≤◌, ℕ, Bool, List, Option, None, ap, arith, length, refl, subst, take}
use Rattle.std.specs.Prelude.{IfSome}
use Rattle.std.specs.Global.{Vec}
use Rattle.std.specs.Io.KnownBytes.{Appends}
use Rattle.source.specs.declared.lexer.TheConstants.{MAX_TEXT}
use Rattle.program.specs.Programs.{ProgramModel}
use Rattle.rules.specs.Programs.{model_of}
use Rattle.machine.specs.Outcomes.{QueueBounds}
use Rattle.machine.specs.Runs as graph_runs
use Rattle.machine.specs.Runs.{AreBounds}
use Rattle.machine.specs.Views.{world_model}
use Rattle.machine.specs.declared.halts.Event.{Event}
use Rattle.semantics.specs.Events.{start_of}
use Rattle.replays.specs.EventLines.{TraceWords}
use Rattle.replays.specs.RunLines.{run_lines}
use Rattle.replays.specs.Schedules.{IsSchedule}
use Rattle.replays.specs.declared.detail.Detail.TheVariants.{Notable}
use Rattle.replays.specs.declared.end.RunEnd.{RunEnd}
use Rattle.replays.specs.declared.end.RunEnd.TheVariants.{Deadlock}
use Rattle.runs.specs.Ends.{IsAnEnd, EndsSo, IsRun}
use Rattle.deadlocks.specs.Deadlocks.{LeadsToDeadlock}
use Rattle.deadlocks.specs.GraphDeadlocks as GraphDeadlocks
use Rattle.explore.specs.Answers as soonest
use Rattle.runs.specs.declared.ending.Simulation.{Simulation}
use Rattle.devices.specs.Devices.{TakesBeginning}
use Rattle.devices.specs.Runs.{BeginsAnswer, Writes}
use Rattle.devices.specs.declared.fault.Status.{Status}
use Rattle.devices.specs.declared.fault.Status.TheVariants.{Found}
use Rattle.devices.specs.declared.reading.TheConstants.{MAX_READ}
use Rattle.singcheck.specs.Entered.{IsBegun}
use Rattle.singcheck.specs.PrintedRuns.{Explores, Locks, LocksSoonest, Refused}
use Rattle.singcheck.specs.PrintedRuns.{AreLinesOf, Unknown, Whole, all_events, run_words}
use Rattle.singcheck.specs.declared.entering.Begun.{Begun}
use Rattle.singcheck.proofs.LongLemmas.{AreLong, IsOfFront, answers_long, no_program, of_front}
use Rattle.singcheck.proofs.Texts.{begins_is, writes_is}
use Rattle.singcheck.proofs.RunLemmas.{AgreeOnRuns, run_of_entry, untold}

-- the lines of a run, if it ended so
abbrev lines_ending : TraceWords → Simulation → (lost : List Bool) → RunEnd → List ℕ
lines_ending t r lost end =
    run_lines t (world_model r.journal.world) (length r.journal.events.items) r.journal.lines.items r.journal.conditions end lost

-- what holds of deadlocks over graphs and over statements
pub record AgreeOnDeadlocks : Type 0 where
  pub leads : (p : ProgramModel) (bound : QueueBounds) (m : ℕ) (events : List Event)
      → GraphDeadlocks.LeadsToDeadlock p bound m events → LeadsToDeadlock p bound m events
  pub back : (p : ProgramModel) (bound : QueueBounds) (m : ℕ) (events : List Event)
      → LeadsToDeadlock p bound m events → GraphDeadlocks.LeadsToDeadlock p bound m events

-- a run into a deadlock is a shortest one if it has no more events than one that is
pub locks_soonest : AgreeOnRuns → AgreeOnDeadlocks → (text entry : List ℕ) (b : Begun) (is : IsBegun text entry b) (t : TraceWords)
    → t ≡ run_words text is.entered.has.resolved.items (model_of b.program) Notable → (r : Simulation) → IsRun t b.method.0 r
    → (schedule : Option (Vec ℕ)) → IfSome schedule (λ s. IsSchedule s.items (all_events r.journal.events.items r.end))
    → r.end ≡ Deadlock → (events : List Event) → length r.journal.events.items ≤ length events
    → ((bound : QueueBounds) → AreBounds (model_of b.program) bound
    → soonest.LeadsSoonest (model_of b.program) bound b.method.0 events)
    → (bytes : List ℕ) → AreLinesOf t r bytes → LocksSoonest entry schedule text bytes
locks_soonest agree same_deadlocks text entry b is t same r ran schedule told end events few first bytes written =
    let p = model_of b.program in
    let n = b.method.0 in
    let words = run_words text is.entered.has.resolved.items p Notable in
    let run = subst (λ (s : TraceWords). IsRun s n r) same ran in
    let here = run_of_entry agree text entry Notable b is t same r ran schedule told bytes written in
    record {
      run = record {
        program = p;
        n = n;
        entered = is.entered;
        events = here.events;
        lines = here.lines;
        conditions = here.conditions;
        world = here.world;
        leads = here.leads;
        statements = here.statements;
        ends = subst (IsAnEnd p (world_model r.journal.world)) end run.end;
        told = subst (λ x. IfSome schedule (λ s. IsSchedule s.items (all_events r.journal.events.items x))) end told;
        lost = here.lost;
        which = here.which;
        are = here.are ∙ ap (lines_ending words r here.lost) end;
      };
      soonest = λ bound are.
          let graph_leads : GraphDeadlocks.LeadsToDeadlock p bound n r.journal.events.items = record {
            world = world_model r.journal.world;
            leads = agree.lines words bound (graph_runs.start_of p n) (world_model r.journal.world) r.journal.events.items
                r.journal.lines.items r.journal.conditions (run.journal bound are);
            deadlock = subst (EndsSo p bound (world_model r.journal.world)) end (run.end bound are);
          } in
          record {
            leads = same_deadlocks.leads p bound n r.journal.events.items graph_leads;
            fewest = λ others led. omega (arith, few, (first bound are).fewest others (same_deadlocks.back p bound n others led));
          };
    }

-- the result of `explore` for the bytes of a text that are read is the result for the text
explores_long : (entry text other bytes : List ℕ) (most : ℕ) (schedule : Option (Vec ℕ)) (status : Status) → AreLong text other
    → Explores entry most schedule text bytes status → Explores entry most schedule other bytes status
explores_long entry text other bytes most schedule status long (Refused told is) = Refused (answers_long text other bytes Found long told) is
explores_long entry text other bytes most schedule status long (Locks locks is) =
    no_program text long.one locks.run.entered.has.resolved.parsed.tokens locks.run.entered.has.resolved.parsed.lexed
explores_long entry text other bytes most schedule status long (Whole worlds never are is) =
    no_program text long.one never.entered.has.resolved.parsed.tokens never.entered.has.resolved.parsed.lexed
explores_long entry text other bytes most schedule status long (Unknown are is) = Unknown are is

explores_of_front : (entry : List ℕ) (most : ℕ) (schedule : Option (Vec ℕ)) → IsOfFront (Explores entry most schedule) MAX_READ
explores_of_front entry most schedule = record {
  whole = λ text bytes status. of_front (λ t. Explores entry most schedule t bytes status) MAX_TEXT MAX_READ refl
      (λ a b x y. explores_long entry a b bytes most schedule status (record { one = x; two = y })) text;
}

pub explore_written : (entry : List ℕ) (most : ℕ) (schedule : Option (Vec ℕ)) (a w v : Option (List ℕ)) (text bytes : List ℕ) (status : Status)
    → IfSome a (λ xs. text ≡ take MAX_READ xs) → Explores entry most schedule text bytes status → Appends w v bytes
    → IfSome a (λ xs. Writes (Explores entry most schedule) xs w v status)
explore_written entry most schedule a w v text bytes status is answers done =
    writes_is (Explores entry most schedule) a w v text bytes status MAX_READ (explores_of_front entry most schedule) is answers done

forget_search : (entry text bytes : List ℕ) (most : ℕ) (schedule : Option (Vec ℕ)) (status : Status)
    → Explores entry most schedule text bytes status → Explores entry most None text bytes status
forget_search entry text bytes most schedule status (Refused told is) = Refused told is
forget_search entry text bytes most schedule status (Locks locks is) =
    Locks (record { run = untold entry text bytes Notable schedule Deadlock locks.run; soonest = locks.soonest }) is
forget_search entry text bytes most schedule status (Whole worlds never are is) = Whole worlds never are is
forget_search entry text bytes most schedule status (Unknown are is) = Unknown are is

pub explore_begun : (entry : List ℕ) (most : ℕ) (schedule : Option (Vec ℕ)) (a w v : Option (List ℕ)) (text bytes : List ℕ)
    (status : Status)
    → IfSome a (λ xs. text ≡ take MAX_READ xs) → Explores entry most schedule text bytes status → TakesBeginning w v bytes
    → IfSome a (λ xs. BeginsAnswer (Explores entry most None) xs w v)
explore_begun entry most schedule a w v text bytes status is answers begun =
    begins_is (Explores entry most None) a w v text bytes status MAX_READ (explores_of_front entry most None) is
    (forget_search entry text bytes most schedule status answers) begun
