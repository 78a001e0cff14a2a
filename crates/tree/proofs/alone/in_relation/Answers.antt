use Rattle.std.proofs.Common.{sym, ◌∙◌}
use Rattle.tree.specs.Operators.{Compare}
use Rattle.tree.specs.ExpressionTrees.{relation_step_tree, relation_tree, sum_tree}
use Rattle.tree.specs.declared.expression.Relation as relations
use Rattle.tree.proofs.ExpressionTwins.{relation_model}
use Rattle.tree.proofs.AloneLemmas.{chain_is_more, chain_is_first}
use Rattle.tree.proofs.alone.in_relation.Goals as goal

pub returns-then-not-is_empty : goal.returns-then-not-is_empty
returns-then-not-is_empty c =
    let e = relations.out-Relation c.args.relation.now in
    chain_is_more Compare relation_step_tree (sum_tree e.first) e.others.items _ (relation_tree c.args.relation.now) (relation_model c.args.relation.now) e.others.ok.0 (sym c.is_empty.ensures ∙ c.if-not-is_empty.true)

pub returns : goal.returns
returns c =
    let e = relations.out-Relation c.args.relation.now in
    chain_is_first Compare relation_step_tree (sum_tree e.first) e.others.items _ (relation_tree c.args.relation.now) (relation_model c.args.relation.now) e.others.ok.0 (sym c.is_empty.ensures ∙ c.if-not-is_empty.false) c.in_sum.ensures
