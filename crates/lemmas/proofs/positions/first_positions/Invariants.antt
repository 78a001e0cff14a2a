use Rattle.std.proofs.Common.{◌≡◌, take}
use Rattle.std.specs.BTreeMap.{get}
use Rattle.lemmas.specs.Places.{first_position}
use Rattle.lemmas.proofs.positions.first_positions.Given as goal

abbrev pub invariant-loop-i : goal.invariant-loop-i
invariant-loop-i g l = (k : _) → get g.K.Ord.cmp l.positions k ≡ first_position g.K.Ord.cmp (take l.i l.keys) k
