use Rattle.std.proofs.Common.{◌≡◌, ◌≤◌}
use Rattle.shelf.specs.SoFar.{last_of, next_index, indices_left, shelf_of}
use Rattle.shelf.proofs.so_far.SoFarIterator.next.Given as goal

abbrev pub invariant-loop-index : goal.invariant-loop-index
invariant-loop-index l =
    (shelf_of l.self ≡ shelf_of l.initial.self)
    × (last_of l.self ≡ last_of l.initial.self)
    × (next_index l.initial.self ≤ next_index l.self)
    × (indices_left l.self ≤ indices_left l.initial.self)

abbrev pub decreases-loop-index : goal.decreases-loop-index
decreases-loop-index l = indices_left l.self
