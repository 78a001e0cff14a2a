use Rattle.std.proofs.Common.{take}
use Rattle.contract_traces.proofs.TableLemmas.{AreNoted}
use Rattle.contract_traces.proofs.firsts.earlier_edges.Given as goal

abbrev pub invariant-loop-edge : goal.invariant-loop-edge
invariant-loop-edge l = AreNoted (take l.edge-index l.edges) l.noted
