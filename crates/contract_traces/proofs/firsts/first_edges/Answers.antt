use Rattle.std.proofs.Common.{refl}
use Rattle.contract_traces.proofs.TableLemmas.{sign_step}
use Rattle.contract_traces.proofs.firsts.first_edges.Goals as goal

pub loop-edge-preserved : goal.loop-edge-preserved
loop-edge-preserved c =
    sign_step c.args.edges.now c.args.sign c.loop-edge.edge-index _ _ c.loop-edge.firsts c.note_sign.new.firsts c.loop-edge-test.true c.in_ok-note_sign.ensures.noted c.in_ok-note_sign.ensures.other
    c.loop-edge.invariant refl
