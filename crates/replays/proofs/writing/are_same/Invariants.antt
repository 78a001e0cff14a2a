use Rattle.std.proofs.Common.{◌≡◌, take}
use Rattle.replays.proofs.writing.are_same.Given as goal

-- the events so far are the same
abbrev pub invariant-loop-index : goal.invariant-loop-index
invariant-loop-index l = take l.index l.left ≡ take l.index l.right
