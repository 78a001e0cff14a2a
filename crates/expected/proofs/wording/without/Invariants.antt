use Rattle.std.proofs.Common.{◌≡◌, take}
use Rattle.expected.specs.Grouping.{without}
use Rattle.expected.proofs.wording.without.Given as goal

abbrev pub invariant-loop-kind : goal.invariant-loop-kind
invariant-loop-kind l = l.left.items ≡ without l.group (take l.kind-index l.kinds)
