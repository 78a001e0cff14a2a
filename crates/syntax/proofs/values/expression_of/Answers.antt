use Rattle.std.proofs.Common.{◌++◌, subst}
use Rattle.syntax.specs.Reading.{Reads}
use Rattle.tree.specs.Expressions.{level, expression}
use Rattle.syntax.specs.ExpressionReads.{expression_on, expression_at}
use Rattle.tree.specs.ExpressionTrees.{expression_tree, target_tree}
use Rattle.syntax.proofs.ValueEnds.{target_unary, target_unary_stops}
use Rattle.syntax.proofs.values.expression_of.Goals as goal

pub expression_from-requires : goal.expression_from-requires
expression_from-requires c = target_unary_stops (target_tree c.args.first) _ _ (target_unary c.args.first) c.requires

pub returns : goal.returns
returns c = subst (λ u. Reads expression_tree expression expression_on expression_at (level u ++ c.args.cursor.now) c.expression_from.new.cursor c.expression_from.result) (target_unary c.args.first) c.expression_from.ensures.read
