use Rattle.std.proofs.Common.{take}
use Rattle.contracts.specs.Positions.{pair_cmp}
use Rattle.program.specs.Parts.{contract_parts}
use Rattle.contract_traces.specs.Tables.{HasDirectionAt, IsTableOf}
use Rattle.contract_traces.proofs.TableLemmas.{with_edges}
use Rattle.contract_traces.proofs.reasons.directions_of.Given as goal

abbrev pub invariant-loop-edge : goal.invariant-loop-edge
invariant-loop-edge l = IsTableOf pair_cmp (HasDirectionAt (with_edges (contract_parts l.contract) (take l.edge-index l.contract.edges.items))) l.directions
