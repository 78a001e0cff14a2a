use Rattle.std.proofs.Common.{refl}
use Rattle.contract_traces.proofs.TableLemmas.{repeats_step}
use Rattle.contract_traces.proofs.firsts.earlier_edges.Goals as goal

pub loop-edge-preserved : goal.loop-edge-preserved
loop-edge-preserved c =
    repeats_step c.args.edges.now c.loop-edge.edge-index _ _ c.loop-edge.noted c.note.new.self c.loop-edge-test.true c.in_ok-note.ensures c.loop-edge.invariant refl
