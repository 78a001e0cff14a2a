use Rattle.std.proofs.Common.{◌≡◌, ◌==◌, length, map, not, take}
use Rattle.contracts.specs.Graphs.{groups}
use Rattle.contracts.proofs.ringing.nonempty_groups.Given as goal

abbrev pub invariant-loop-v : goal.invariant-loop-v
invariant-loop-v l = l.marks.items ≡ map (λ group. not (length group == 0)) (take l.v (groups l.graph))
