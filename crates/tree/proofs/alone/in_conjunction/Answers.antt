use Rattle.std.proofs.Common.{sym, ◌∙◌}
use Rattle.tree.specs.Operators.{And}
use Rattle.tree.specs.ExpressionTrees.{without_sign, conjunction_tree, equality_tree}
use Rattle.tree.specs.declared.expression.Conjunction as conjunctions
use Rattle.tree.proofs.ExpressionTwins.{conjunction_model}
use Rattle.tree.proofs.AloneLemmas.{chain_is_more, chain_is_first}
use Rattle.tree.proofs.alone.in_conjunction.Goals as goal

pub returns-then-not-is_empty : goal.returns-then-not-is_empty
returns-then-not-is_empty c =
    let e = conjunctions.out-Conjunction c.args.conjunction.now in
    chain_is_more And (without_sign equality_tree) (equality_tree e.first) e.others.items _ (conjunction_tree c.args.conjunction.now) (conjunction_model c.args.conjunction.now) e.others.ok.0 (sym c.is_empty.ensures ∙ c.if-not-is_empty.true)

pub returns : goal.returns
returns c =
    let e = conjunctions.out-Conjunction c.args.conjunction.now in
    chain_is_first And (without_sign equality_tree) (equality_tree e.first) e.others.items _ (conjunction_tree c.args.conjunction.now) (conjunction_model c.args.conjunction.now) e.others.ok.0 (sym c.is_empty.ensures ∙ c.if-not-is_empty.false) c.in_equality.ensures
