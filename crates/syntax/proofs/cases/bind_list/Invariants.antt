use Rattle.std.proofs.Common.{length}
use Rattle.tree.specs.StatementGrammar.{bind}
use Rattle.syntax.specs.StatementParts.{bind_at}
use Rattle.syntax.proofs.pieces.ListedOpen.{ListRead}
use Rattle.syntax.proofs.cases.bind_list.Given as goal

abbrev pub invariant-more : goal.invariant-more
invariant-more l = ListRead bind bind_at l.all.items l.fn.cursor l.cursor

abbrev pub decreases-more : goal.decreases-more
decreases-more l = length l.cursor
