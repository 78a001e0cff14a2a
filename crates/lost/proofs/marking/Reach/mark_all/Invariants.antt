use Rattle.std.proofs.Common.{Contains, take}
use Rattle.lost.specs.Marks.{AddsMarks}
use Rattle.lost.proofs.marking.Reach.mark_all.Given as goal

abbrev pub invariant-loop-address : goal.invariant-loop-address
invariant-loop-address l = AddsMarks (λ a. Contains (take l.address-index l.addresses) a) l.initial.self l.self
