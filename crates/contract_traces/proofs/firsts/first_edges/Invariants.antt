use Rattle.std.proofs.Common.{take}
use Rattle.std.specs.Ordering.{nat_cmp}
use Rattle.contract_traces.specs.Tables.{IsFirstBy, IsTableOf}
use Rattle.contract_traces.proofs.firsts.first_edges.Given as goal

abbrev pub invariant-loop-edge : goal.invariant-loop-edge
invariant-loop-edge l = IsTableOf nat_cmp (IsFirstBy (take l.edge-index l.edges) l.sign) l.firsts
