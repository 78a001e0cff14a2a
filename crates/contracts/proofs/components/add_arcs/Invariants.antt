use Rattle.std.proofs.Common.{◌≡◌, ◌++◌, map, take}
use Rattle.contracts.specs.Arcs.{arc}
use Rattle.contracts.proofs.components.add_arcs.Given as goal

abbrev pub invariant-loop-end : goal.invariant-loop-end
invariant-loop-end l = l.arcs.items ≡ l.initial.arcs.items ++ map (arc l.from) (take l.end-index l.ends)
