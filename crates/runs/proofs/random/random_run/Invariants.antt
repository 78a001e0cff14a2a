use Rattle.replays.specs.Telling.{tracer_words}
use Rattle.runs.specs.Ends.{IsRun}
use Rattle.runs.specs.Tallies.{AreTallies}
use Rattle.runs.proofs.random.random_run.Given as goal

-- the run that is kept is one of the method, and the tallies are of its runs
abbrev pub invariant-loop : goal.invariant-loop
invariant-loop l = record {
  run : IsRun (tracer_words l.tracer) l.plan.method.0 l.all.run;
  tallies : AreTallies (tracer_words l.tracer) l.plan.method.0 l.all.tallies;
}
