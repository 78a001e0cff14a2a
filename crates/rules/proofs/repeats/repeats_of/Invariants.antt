use Rattle.std.proofs.Common.{◌≡◌, map, take}
use Rattle.flow.specs.Graphs.{graph_model}
use Rattle.rules.specs.Repeats.{again_in, repeated_in}
use Rattle.rules.proofs.repeats.repeats_of.Given as goal

abbrev pub invariant-loop-graph : goal.invariant-loop-graph
invariant-loop-graph l = map repeated_in l.repeats.items ≡ map (λ g. again_in (graph_model g)) (take l.graph-index l.graphs)
