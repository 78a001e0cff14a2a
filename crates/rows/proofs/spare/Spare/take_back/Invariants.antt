use Rattle.std.proofs.Common.{length}
use Rattle.rows.proofs.spare.Spare.take_back.Given as goal

abbrev pub decreases-pairs : goal.decreases-pairs
decreases-pairs l = length l.pairs.items
