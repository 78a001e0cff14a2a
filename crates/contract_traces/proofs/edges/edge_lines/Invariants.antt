use Rattle.std.proofs.Common.{◌≡◌, map, take}
use Rattle.program.specs.Parts.{contract_parts}
use Rattle.explanations.specs.Lines.{line_model}
use Rattle.contract_traces.specs.Shown.{edge_line}
use Rattle.contract_traces.proofs.edges.edge_lines.Given as goal

abbrev pub invariant-loop-edge : goal.invariant-loop-edge
invariant-loop-edge l = map line_model l.lines.items ≡ map (edge_line (contract_parts l.contract)) (take l.edge-index l.edges)
