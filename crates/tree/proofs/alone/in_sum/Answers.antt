use Rattle.std.proofs.Common.{sym, ap, ◌∙◌, map}
use Rattle.tree.specs.Operators.{Add, Joined}
use Rattle.tree.specs.Expressions.{LevelTree}
use Rattle.tree.specs.ExpressionTrees.{factor_tree, sum_tree, unary_tree}
use Rattle.tree.specs.declared.expression.Factors as factor_lists
use Rattle.tree.specs.Alone.{lone_atom}
use Rattle.tree.proofs.ExpressionTwins.{of_factors, factors_model}
use Rattle.tree.proofs.AloneLemmas.{sequence_is_more}
use Rattle.tree.proofs.alone.in_sum.Goals as goal

pub returns-in-Factors : goal.returns-in-Factors
returns-in-Factors c =
    let factors = c.in-Factors.field-0 in
    let sequence = factor_lists.out-Factors factors.value in
    sequence_is_more (unary_tree sequence.first) (factor_tree sequence.second) (map factor_tree sequence.others.items)
    ∙ sym (ap (λ (t : LevelTree (Joined Add)). lone_atom t) (ap sum_tree c.in-Factors.is ∙ of_factors factors ∙ factors_model factors.value))
