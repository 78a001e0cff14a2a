use Rattle.std.proofs.Common.{sym, ◌∙◌}
use Rattle.tree.specs.Operators.{Equal}
use Rattle.tree.specs.ExpressionTrees.{equality_step_tree, equality_tree, relation_tree}
use Rattle.tree.specs.declared.expression.Equality as equalitys
use Rattle.tree.proofs.ExpressionTwins.{equality_model}
use Rattle.tree.proofs.AloneLemmas.{chain_is_more, chain_is_first}
use Rattle.tree.proofs.alone.in_equality.Goals as goal

pub returns-then-not-is_empty : goal.returns-then-not-is_empty
returns-then-not-is_empty c =
    let e = equalitys.out-Equality c.args.equality.now in
    chain_is_more Equal equality_step_tree (relation_tree e.first) e.others.items _ (equality_tree c.args.equality.now) (equality_model c.args.equality.now) e.others.ok.0 (sym c.is_empty.ensures ∙ c.if-not-is_empty.true)

pub returns : goal.returns
returns c =
    let e = equalitys.out-Equality c.args.equality.now in
    chain_is_first Equal equality_step_tree (relation_tree e.first) e.others.items _ (equality_tree c.args.equality.now) (equality_model c.args.equality.now) e.others.ok.0 (sym c.is_empty.ensures ∙ c.if-not-is_empty.false) c.in_relation.ensures
