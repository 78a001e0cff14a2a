use Rattle.std.proofs.Common.{◌≡◌, ◌<◌, None, Option, Some, length, subst, sym}
use Rattle.std.specs.Prelude.{IfSome}
use Rattle.program.specs.Programs.{ProgramModel}
use Rattle.replays.specs.EventLines.{TraceWords}
use Rattle.replays.specs.Telling.{tracer_words}
use Rattle.runs.specs.Tallies.{AreTallies}
use Rattle.runs.specs.declared.tallies.Tallies.{Tallies}
use Rattle.singcheck.proofs.RunLemmas.{AgreeOnRuns, run_of_entry}
use Rattle.singcheck.proofs.random_runs.run_begun.Goals as goal

pub random_run-requires : goal.random_run-requires
random_run-requires c = record {
  there = subst (λ (p : ProgramModel). c.args.begun.now.method.0 < length p.methods) (sym c.in_ok-tracer.ensures.program) c.requires.there;
}

-- what holds of tallies holds of those that are shown
tallies_of : (shown : Option Tallies) (all : Tallies) (P : Tallies → Type 0) → IfSome shown (λ t. t ≡ all) → P all → IfSome shown P
tallies_of None all P same p = tt
tallies_of (Some t) all P same p = subst P (sym same) p

pub returns : goal.returns
returns c = λ text entry begun.
    let run = c.in_ok-random.random.run in
    let words = tracer_words c.in_ok-tracer.tracer in
    let agree : AgreeOnRuns = record {
      steps = c.events_agree.ensures.steps;
      graphs = c.events_agree.ensures.graphs;
      lines = c.lines_are_of_runs.ensures;
    } in
    record {
      end = run.end;
      lines = c.in_ok-ran.ran.report.bytes.items;
      seed = c.in_ok-random.random.seed;
      run = run_of_entry agree text entry c.args.options.now.detail c.args.begun.now begun words (c.in_ok-tracer.ensures.words text entry begun)
          run c.in_ok-random.ensures.run c.in_ok-ran.ran.schedule c.in_ok-ran.ensures.schedule
          c.in_ok-ran.ran.report.bytes.items c.in_ok-ran.ensures.lines;
      tallies = c.shown_tallies-tallies.result;
      counted = tallies_of c.shown_tallies-tallies.result c.in_ok-random.random.tallies _ c.shown_tallies-tallies.ensures
          (subst (λ (t : TraceWords). AreTallies t c.args.begun.now.method.0 c.in_ok-random.random.tallies) (c.in_ok-tracer.ensures.words text entry begun)
          c.in_ok-random.ensures.tallies);
      are = c.in_ok-add_seed_and_tallies.ensures;
      is = c.in_ok-ran.ensures.status;
    }
