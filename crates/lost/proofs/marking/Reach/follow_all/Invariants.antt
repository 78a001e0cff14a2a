use Rattle.std.proofs.Common.{◌≡◌, ◌≤◌, ◌+◌, length}
use Rattle.machine.specs.Views.{blocks_model}
use Rattle.machine.specs.World.{World}
use Rattle.lost.specs.Marks.{AreMarkedSoFar, to_do}
use Rattle.lost.proofs.marking.Reach.follow_all.Given as goal

abbrev pub invariant-loop-round : goal.invariant-loop-round
invariant-loop-round l = record {
  covers : (w : World) → w.blocks ≡ blocks_model l.blocks → AreMarkedSoFar w l.initial.self → AreMarkedSoFar w l.self;
  rounds : to_do l.initial.self ≤ length l.blocks → to_do l.self + l._round ≤ length l.blocks;
}
