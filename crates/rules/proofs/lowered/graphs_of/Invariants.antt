use Rattle.std.proofs.Common.{◌≡◌, map, take}
use Rattle.flow.specs.Graphs.{graph_model}
use Rattle.flow.specs.Lowering.{graph_of}
use Rattle.program.specs.Methods.{method_model}
use Rattle.rules.proofs.lowered.graphs_of.Given as goal

abbrev pub invariant-loop-method : goal.invariant-loop-method
invariant-loop-method l = map graph_model l.graphs.items ≡ map graph_of (map method_model (take l.method-index l.methods))
