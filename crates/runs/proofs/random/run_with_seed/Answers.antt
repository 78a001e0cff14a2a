use Rattle.std.proofs.lemmas.Result.{IfOk-weaker}
use Rattle.runs.proofs.random.run_with_seed.Goals as goal

pub returns-in-Idle : goal.returns-in-Idle
returns-in-Idle c =
    let m = c.args.plan.now.method.0 in
    IfOk-weaker c.ended_run.result _ _ (λ run told. told m (c.in_ok-take_turn.ensures.kept m c.loop.invariant)) c.ended_run.ensures.run
