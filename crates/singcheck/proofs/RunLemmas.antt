-- Runs, from the entry to what is written; and why they meet no fault if nothing is found.
use Rattle.std.proofs.Common.{◌≡◌, ◌∙◌, ℕ, List, Option, Some, None, Result, Ok, Err, ap, refl, subst, sym, take}
use Rattle.std.specs.Prelude.{IfOk, IfSome}
use Rattle.std.specs.Global.{Vec}
use Rattle.std.specs.Io.KnownBytes.{Appends}
use Rattle.source.specs.declared.lexer.TheConstants.{MAX_TEXT}
use Rattle.source.specs.declared.place.Place.{Place}
use Rattle.program.specs.Programs.{ProgramModel}
use Rattle.rules.specs.Programs.{model_of}
use Rattle.machine.specs.Machine as graph
use Rattle.machine.specs.Outcomes as outcomes
use Rattle.machine.specs.Outcomes.{QueueBounds}
use Rattle.machine.specs.Runs as graph_runs
use Rattle.machine.specs.Views.{world_model}
use Rattle.machine.specs.World as graph_world
use Rattle.machine.specs.declared.halts.Event.{Event}
use Rattle.machine.specs.declared.halts.Fault as made
use Rattle.semantics.specs.Events.{RunsTo, event_outcome, start_of}
use Rattle.semantics.specs.Same.{IsOutcome, IsWorld}
use Rattle.semantics.specs.Worlds.{Faulty, Moved, NoChoice, NoProcess, Outcome, Waits, World}
use Rattle.replays.specs.EventLines.{TraceWords}
use Rattle.replays.specs.Journals.{HasLines, IsFaultAt}
use Rattle.replays.specs.declared.detail.Detail.{Detail}
use Rattle.replays.specs.Schedules.{IsSchedule}
use Rattle.replays.specs.declared.end.RunEnd.{RunEnd}
use Rattle.replays.specs.declared.end.RunEnd.TheVariants.{Fault}
use Rattle.runs.specs.Ends.{EndsSo, IsRun}
use Rattle.runs.specs.declared.ending.Simulation.{Simulation}
use Rattle.devices.specs.Devices.{TakesBeginning}
use Rattle.devices.specs.Runs.{BeginsAnswer, Writes}
use Rattle.devices.specs.declared.fault.Status.{Status}
use Rattle.devices.specs.declared.fault.Status.TheVariants.{Found}
use Rattle.devices.specs.declared.reading.TheConstants.{MAX_READ}
use Rattle.singcheck.specs.Entered.{IsBegun}
use Rattle.singcheck.specs.PrintedRuns.{AreLinesOf, IsPrintedRun, IsSeededRun, OfFindings, OfRun, RunsAtRandom}
use Rattle.singcheck.specs.PrintedRuns.{RunsFaultless, all_events, lines_of_run, run_words}
use Rattle.singcheck.specs.Safety.{HasEmptyReport}
use Rattle.singcheck.specs.declared.entering.Begun.{Begun}
use Rattle.singcheck.proofs.LongLemmas.{AreLong, IsOfFront, answers_long, no_program, of_front}
use Rattle.singcheck.proofs.ReplayLemmas.{KnownOf, entry_is, none_found, run_of}
use Rattle.singcheck.proofs.ScheduledLemmas.{empty_front}
use Rattle.singcheck.proofs.Texts.{begins_is, writes_is}

-- what follows from three things that hold of a result
pub if_ok_three : {T E : Type 0} (r : Result T E) (P Q R S : T → Type 0) → ((x : T) → P x → Q x → R x → S x) → IfOk r P → IfOk r Q → IfOk r R
    → IfOk r S
if_ok_three (Ok x) P Q R S so p q r = so x p q r
if_ok_three (Err e) P Q R S so p q r = tt

-- what holds of runs over graphs and over statements
pub record AgreeOnRuns : Type 0 where
  pub steps : (p : ProgramModel) (bound : QueueBounds) (w : graph_world.World) (s : World) → IsWorld p w s → (e : Event)
      → IsOutcome p (graph.event_outcome p bound w e) (event_outcome p bound s e)
  pub graphs : (p : ProgramModel) (bound : QueueBounds) (n : ℕ) (es : List Event) (w : graph_world.World)
      → graph_runs.RunsTo p bound (graph_runs.start_of p n) es w
      → (s : World) × (RunsTo p bound (start_of p n) es s × IsWorld p w s)
  pub lines : (t : TraceWords) (bound : QueueBounds) (w v : graph_world.World) (events : List Event) (lines : List ℕ) (conditions : ℕ)
      → HasLines t bound w events v lines conditions → graph_runs.RunsTo t.words.program bound w events v

-- a run whose lines have the names of a text is one of that text
abbrev pub run_of_entry : AgreeOnRuns → (text entry : List ℕ) (detail : Detail) (b : Begun) (is : IsBegun text entry b) (t : TraceWords)
    → t ≡ run_words text is.entered.has.resolved.items (model_of b.program) detail → (r : Simulation) → IsRun t b.method.0 r
    → (schedule : Option (Vec ℕ)) → IfSome schedule (λ s. IsSchedule s.items (all_events r.journal.events.items r.end))
    → (bytes : List ℕ) → AreLinesOf t r bytes → IsPrintedRun entry detail schedule text r.end bytes
run_of_entry agree text entry detail b is t same r ran schedule told bytes written =
    let p = model_of b.program in
    let n = b.method.0 in
    let words = run_words text is.entered.has.resolved.items p detail in
    let run = subst (λ (s : TraceWords). IsRun s n r) same ran in
    record {
      program = p;
      n = n;
      entered = is.entered;
      events = r.journal.events.items;
      lines = r.journal.lines.items;
      conditions = r.journal.conditions;
      world = world_model r.journal.world;
      leads = run.journal;
      statements = λ bound are.
          let there = agree.graphs p bound n r.journal.events.items (world_model r.journal.world)
          (agree.lines words bound (graph_runs.start_of p n) (world_model r.journal.world) r.journal.events.items
          r.journal.lines.items r.journal.conditions (run.journal bound are)) in
          record { same = there.0; leads = there.1.0; is = there.1.1 };
      ends = run.end;
      told = told;
      lost = written.lost;
      which = written.which;
      are = written.are ∙ ap (λ (s : TraceWords). lines_of_run s r written.lost) same;
    }

-- the same run without its schedule
abbrev pub untold : (entry text bytes : List ℕ) (detail : Detail) (schedule : Option (Vec ℕ)) (end : RunEnd)
    → IsPrintedRun entry detail schedule text end bytes → IsPrintedRun entry detail None text end bytes
untold entry text bytes detail schedule end run = record {
  program = run.program;
  n = run.n;
  entered = run.entered;
  events = run.events;
  lines = run.lines;
  conditions = run.conditions;
  world = run.world;
  leads = run.leads;
  statements = run.statements;
  ends = run.ends;
  told = tt;
  lost = run.lost;
  which = run.which;
  are = run.are;
}

-- a fault of graphs is one of statements
same_fault : (p : ProgramModel) (x : made.Fault) (g : outcomes.Outcome) (o : Outcome) → g ≡ outcomes.Faulty x → IsOutcome p g o
    → o ≡ Faulty x
same_fault p x (outcomes.Moved w) o is same = absurd (cc)
same_fault p x outcomes.Waits o is same = absurd (cc)
same_fault p x outcomes.NoProcess o is same = absurd (cc)
same_fault p x outcomes.NoChoice o is same = absurd (cc)
same_fault p x (outcomes.Faulty y) (Moved s) is same = absurd same
same_fault p x (outcomes.Faulty y) Waits is same = absurd same
same_fault p x (outcomes.Faulty y) NoProcess is same = absurd same
same_fault p x (outcomes.Faulty y) NoChoice is same = absurd same
same_fault p x (outcomes.Faulty y) (Faulty z) is same = let one : y ≡ x = cc in ap Faulty (sym same ∙ one)

-- if nothing is found, a run does not end in a fault
meets_none : (entry text bytes : List ℕ) (detail : Detail) (schedule : Option (Vec ℕ)) (status : Status) → KnownOf text → AgreeOnRuns → HasEmptyReport text
    → (ran : IsSeededRun entry detail schedule text bytes status) → (e : Event) (fault : made.Fault) (at : Place) → ran.end ≡ Fault e fault at → ⊥
meets_none entry text bytes detail schedule status known agree empty ran e fault at same =
    let r = ran.run in
    let p = r.program in
    let has = r.entered.has in
    known.bounds p has (λ bound are.
    let ends : IsFaultAt p bound r.world e fault at = subst (EndsSo p bound r.world) same (r.ends bound are) in
    let there = r.statements bound are in
    let starts = entry_is p (known.formed p has) (known.bare p has) r.n r.entered.at.begins in
    let run = run_of p bound r.n r.events there.same there.leads in
    let safe = known.safe p bound (known.formed p has) (known.sound p has) are (none_found text p known has empty) r.n there.same starts run in
    safe.no_fault e fault (same_fault p fault (graph.event_outcome p bound r.world e) (event_outcome p bound there.same e) ends.faulty
    (agree.steps p bound r.world there.same there.is e)))

pub runs_faultless : (entry text bytes : List ℕ) (detail : Detail) (schedule : Option (Vec ℕ)) (status : Status) → KnownOf text → AgreeOnRuns
    → IsSeededRun entry detail schedule text bytes status → HasEmptyReport text → RunsFaultless entry detail schedule text bytes status
runs_faultless entry text bytes detail schedule status known agree ran empty =
    record { run = ran; no_fault = meets_none entry text bytes detail schedule status known agree empty ran }

-- the result for the bytes of a text that are read is the result for the text
runs_long : (entry text other bytes : List ℕ) (detail : Detail) (schedule : Option (Vec ℕ)) (status : Status) → AreLong text other
    → RunsAtRandom entry detail schedule text bytes status → RunsAtRandom entry detail schedule other bytes status
runs_long entry text other bytes detail schedule status long (OfFindings told is) = OfFindings (answers_long text other bytes Found long told) is
runs_long entry text other bytes detail schedule status long (OfRun ran) =
    no_program text long.one ran.run.entered.has.resolved.parsed.tokens ran.run.entered.has.resolved.parsed.lexed

runs_of_front : (entry : List ℕ) (detail : Detail) (schedule : Option (Vec ℕ)) → IsOfFront (RunsAtRandom entry detail schedule) MAX_READ
runs_of_front entry detail schedule = record {
  whole = λ text bytes status. of_front (λ t. RunsAtRandom entry detail schedule t bytes status) MAX_TEXT MAX_READ refl
      (λ a b x y. runs_long entry a b bytes detail schedule status (record { one = x; two = y })) text;
}

pub run_written : (entry : List ℕ) (detail : Detail) (schedule : Option (Vec ℕ)) (a w v : Option (List ℕ)) (text bytes : List ℕ) (status : Status)
    → IfSome a (λ xs. text ≡ take MAX_READ xs) → RunsAtRandom entry detail schedule text bytes status → Appends w v bytes
    → IfSome a (λ xs. Writes (RunsAtRandom entry detail schedule) xs w v status)
run_written entry detail schedule a w v text bytes status is answers done =
    writes_is (RunsAtRandom entry detail schedule) a w v text bytes status MAX_READ (runs_of_front entry detail schedule) is answers done

-- the same lines without the schedule
forget : (entry text bytes : List ℕ) (detail : Detail) (schedule : Option (Vec ℕ)) (status : Status)
    → RunsAtRandom entry detail schedule text bytes status → RunsAtRandom entry detail None text bytes status
forget entry text bytes detail schedule status (OfFindings told is) = OfFindings told is
forget entry text bytes detail schedule status (OfRun ran) = OfRun (record {
  end = ran.end;
  lines = ran.lines;
  seed = ran.seed;
  run = untold entry text ran.lines detail schedule ran.end ran.run;
  tallies = ran.tallies;
  counted = ran.counted;
  are = ran.are;
  is = ran.is;
})

pub run_begun : (entry : List ℕ) (detail : Detail) (schedule : Option (Vec ℕ)) (a w v : Option (List ℕ)) (text bytes : List ℕ)
    (status : Status)
    → IfSome a (λ xs. text ≡ take MAX_READ xs) → RunsAtRandom entry detail schedule text bytes status → TakesBeginning w v bytes
    → IfSome a (λ xs. BeginsAnswer (RunsAtRandom entry detail None) xs w v)
run_begun entry detail schedule a w v text bytes status is answers begun =
    begins_is (RunsAtRandom entry detail None) a w v text bytes status MAX_READ (runs_of_front entry detail None) is
    (forget entry text bytes detail schedule status answers) begun

pub run_safe : (entry : List ℕ) (detail : Detail) (schedule : Option (Vec ℕ)) (a w v : Option (List ℕ)) (text bytes : List ℕ) (status : Status)
    → IfSome a (λ xs. text ≡ take MAX_READ xs) → (HasEmptyReport text → RunsFaultless entry detail schedule text bytes status)
    → Appends w v bytes
    → IfSome a (λ xs. HasEmptyReport xs → Writes (RunsFaultless entry detail schedule) xs w v status)
run_safe entry detail schedule None w v text bytes status is answers done = tt
run_safe entry detail schedule (Some x) w v text bytes status is answers done = λ empty. record {
  bytes = bytes;
  answers = empty_front (λ t. RunsFaultless entry detail schedule t bytes status) x
      (subst (λ t. HasEmptyReport t → RunsFaultless entry detail schedule t bytes status) is answers) empty;
  written = done;
}
