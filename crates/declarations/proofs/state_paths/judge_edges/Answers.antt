use Rattle.declarations.specs.Listed.{asked_message}
use Rattle.declarations.proofs.AddLemmas.{adds_at}
use Rattle.declarations.proofs.state_paths.judge_edges.Goals as goal

pub loop-edge-preserved : goal.loop-edge-preserved
loop-edge-preserved c = λ names h.
    adds_at (λ e. asked_message c.args.text.now names e.message) c.args.edges.now c.loop-edge.edge-index _ c.loop-edge-test.true
    (c.loop-edge.invariant names h) (c.in_ok-judge_message.ensures names h)
