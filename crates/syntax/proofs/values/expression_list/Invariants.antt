use Rattle.std.proofs.Common.{length, map}
use Rattle.tree.specs.Expressions.{expression}
use Rattle.syntax.specs.ExpressionReads.{expression_at}
use Rattle.tree.specs.ExpressionTrees.{expression_tree}
use Rattle.syntax.proofs.pieces.ListedOpen.{ListRead}
use Rattle.syntax.proofs.values.expression_list.Given as goal

abbrev pub invariant-more : goal.invariant-more
invariant-more l = ListRead expression expression_at (map expression_tree l.all.items) l.fn.cursor l.cursor

abbrev pub decreases-more : goal.decreases-more
decreases-more l = length l.cursor
