use Rattle.std.proofs.Common.{sym, ◌∙◌}
use Rattle.tree.specs.Operators.{Or}
use Rattle.tree.specs.ExpressionTrees.{without_sign, disjunction_tree, conjunction_tree}
use Rattle.tree.specs.declared.expression.Disjunction as disjunctions
use Rattle.tree.proofs.ExpressionTwins.{disjunction_model}
use Rattle.tree.proofs.AloneLemmas.{chain_is_more, chain_is_first}
use Rattle.tree.proofs.alone.in_disjunction.Goals as goal

pub returns-then-not-is_empty : goal.returns-then-not-is_empty
returns-then-not-is_empty c =
    let e = disjunctions.out-Disjunction c.args.disjunction.now in
    chain_is_more Or (without_sign conjunction_tree) (conjunction_tree e.first) e.others.items _ (disjunction_tree c.args.disjunction.now) (disjunction_model c.args.disjunction.now) e.others.ok.0 (sym c.is_empty.ensures ∙ c.if-not-is_empty.true)

pub returns : goal.returns
returns c =
    let e = disjunctions.out-Disjunction c.args.disjunction.now in
    chain_is_first Or (without_sign conjunction_tree) (conjunction_tree e.first) e.others.items _ (disjunction_tree c.args.disjunction.now) (disjunction_model c.args.disjunction.now) e.others.ok.0 (sym c.is_empty.ensures ∙ c.if-not-is_empty.false) c.in_conjunction.ensures
