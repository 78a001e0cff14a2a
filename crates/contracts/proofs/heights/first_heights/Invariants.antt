use Rattle.contracts.specs.Graphs.{groups}
use Rattle.contracts.specs.Peeling.{IsPeeled}
use Rattle.contracts.proofs.heights.first_heights.Given as goal

abbrev pub invariant-loop-v : goal.invariant-loop-v
invariant-loop-v l = IsPeeled (groups l.graph) l.heights.items

abbrev pub invariant-loop-v-2 : goal.invariant-loop-v-2
invariant-loop-v-2 l = IsPeeled (groups l.graph) l.heights.items
