use Rattle.std.proofs.Common.{◌∙◌}
use Rattle.replays.specs.Telling.{tracer_words}
use Rattle.runs.proofs.TallyLemmas.{run_counts}
use Rattle.runs.proofs.random.random_run.Goals as goal

pub loop-init : goal.loop-init
loop-init c =
    let t = tracer_words c.args.tracer.now in
    let m = c.args.plan.now.method.0 in
    record {
      run = c.in_ok-run.ensures;
      tallies = c.count.ensures t m (c.new-tallies.ensures t m)
          (run_counts t m c.in_ok-run.run' c.kind.result c.len.result c.in_ok-run.ensures c.kind.ensures (c.len.ensures ∙ c.in_ok-run.run'.journal.events.ok.0));
    }

pub loop-preserved : goal.loop-preserved
loop-preserved c =
    let t = tracer_words c.args.tracer.now in
    let m = c.args.plan.now.method.0 in
    record {
      run = c.count-in-loop.ensures.run t m c.loop.invariant.run c.in_ok-run_with_seed.ensures;
      tallies = c.count-in-loop.ensures.tallies t m c.loop.invariant.tallies c.in_ok-run_with_seed.ensures;
    }
