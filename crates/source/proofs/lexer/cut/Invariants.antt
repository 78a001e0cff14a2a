use Rattle.std.proofs.Common.{◌-◌, length}
use Rattle.source.proofs.LexedLemmas.{IsReached}
use Rattle.source.proofs.lexer.cut.Given as goal

abbrev pub invariant-pieces : goal.invariant-pieces
invariant-pieces l = IsReached l.mark l.body l.at l.list.items l.place l.depth

abbrev pub decreases-pieces : goal.decreases-pieces
decreases-pieces l = length l.body - l.at
