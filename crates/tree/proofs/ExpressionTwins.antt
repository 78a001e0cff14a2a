-- Expressions in memory as trees, one level at a time.
use Rattle.std.proofs.Common.{◌≡◌, ◌∷◌, Box, map, sym, ap, ◌∙◌}
use Rattle.std.proofs.lemmas.Simd.{map-map}
use Rattle.std.specs.Global.{Global}
use Rattle.source.specs.declared.token.Span.{Span}
use Rattle.tree.specs.Operators.{Or, And, Equal, Compare, Add, Single, Joined}
use Rattle.tree.specs.Expressions.{LevelTree, AtomTree, TargetTree, StepOf, Chain, Unary}
use Rattle.tree.specs.Factors.{FactorTree, sum_of_factors, step_sequence}
use Rattle.tree.specs.ExpressionTrees.{disjunction_tree, conjunction_tree, equality_tree, equality_step_tree, relation_tree, relation_step_tree, sum_tree, factors_tree, factor_tree, unary_tree, prefixed_tree, atom_tree, without_sign}
use Rattle.tree.specs.ExpressionTrees.{atom_of, expression_of, sum_of, target_of, unary_of, conjunction_of, disjunction_of, element_target_of, equality_of, equality_step_of, factor_of, factors_of, prefixed_of, relation_of, relation_step_of}
use Rattle.tree.specs.declared.expression.Conjunction as conjunctions
use Rattle.tree.specs.declared.expression.Disjunction as disjunctions
use Rattle.tree.specs.declared.expression.Equality as equalitys
use Rattle.tree.specs.declared.expression.EqualityStep as equalitysteps
use Rattle.tree.specs.declared.expression.Factor as factors
use Rattle.tree.specs.declared.expression.Factors as factor_lists
use Rattle.tree.specs.declared.expression.Prefixed as prefixeds
use Rattle.tree.specs.declared.expression.Relation as relations
use Rattle.tree.specs.declared.expression.RelationStep as relationsteps
use Rattle.tree.specs.declared.expression.Sum as sums
use Rattle.tree.specs.declared.expression.Sum.TheVariants as sum_variants
use Rattle.tree.specs.declared.expression.Atom.TheOpen as layer

pub disjunction_model : (x : disjunctions.Disjunction) → disjunction_tree x ≡ Chain Or (conjunction_tree (disjunctions.out-Disjunction x).first) (step_sequence Or (map (without_sign conjunction_tree) (disjunctions.out-Disjunction x).others.items))
disjunction_model x =
    disjunctions.fold_out-Disjunction AtomTree (LevelTree (Joined Or)) (LevelTree (Joined Add)) TargetTree (LevelTree Single) (LevelTree (Joined And)) (LevelTree (Joined Or)) (Span × LevelTree (Joined Or)) (LevelTree (Joined Equal)) (StepOf Equal) FactorTree (LevelTree (Joined Add)) (LevelTree Single) (LevelTree (Joined Compare)) (StepOf Compare)
    atom_of expression_of sum_of target_of unary_of conjunction_of disjunction_of element_target_of equality_of equality_step_of factor_of factors_of prefixed_of relation_of relation_step_of x
    ∙ ap (λ ps. Chain Or (conjunction_tree (disjunctions.out-Disjunction x).first) (step_sequence Or ps)) (map-map (λ y. (tt, y)) conjunction_tree (disjunctions.out-Disjunction x).others.items)

pub conjunction_model : (x : conjunctions.Conjunction) → conjunction_tree x ≡ Chain And (equality_tree (conjunctions.out-Conjunction x).first) (step_sequence And (map (without_sign equality_tree) (conjunctions.out-Conjunction x).others.items))
conjunction_model x =
    conjunctions.fold_out-Conjunction AtomTree (LevelTree (Joined Or)) (LevelTree (Joined Add)) TargetTree (LevelTree Single) (LevelTree (Joined And)) (LevelTree (Joined Or)) (Span × LevelTree (Joined Or)) (LevelTree (Joined Equal)) (StepOf Equal) FactorTree (LevelTree (Joined Add)) (LevelTree Single) (LevelTree (Joined Compare)) (StepOf Compare)
    atom_of expression_of sum_of target_of unary_of conjunction_of disjunction_of element_target_of equality_of equality_step_of factor_of factors_of prefixed_of relation_of relation_step_of x
    ∙ ap (λ ps. Chain And (equality_tree (conjunctions.out-Conjunction x).first) (step_sequence And ps)) (map-map (λ y. (tt, y)) equality_tree (conjunctions.out-Conjunction x).others.items)

pub equality_model : (x : equalitys.Equality) → equality_tree x ≡ Chain Equal (relation_tree (equalitys.out-Equality x).first) (step_sequence Equal (map equality_step_tree (equalitys.out-Equality x).others.items))
equality_model =
    equalitys.fold_out-Equality AtomTree (LevelTree (Joined Or)) (LevelTree (Joined Add)) TargetTree (LevelTree Single) (LevelTree (Joined And)) (LevelTree (Joined Or)) (Span × LevelTree (Joined Or)) (LevelTree (Joined Equal)) (StepOf Equal) FactorTree (LevelTree (Joined Add)) (LevelTree Single) (LevelTree (Joined Compare)) (StepOf Compare)
    atom_of expression_of sum_of target_of unary_of conjunction_of disjunction_of element_target_of equality_of equality_step_of factor_of factors_of prefixed_of relation_of relation_step_of

pub relation_model : (x : relations.Relation) → relation_tree x ≡ Chain Compare (sum_tree (relations.out-Relation x).first) (step_sequence Compare (map relation_step_tree (relations.out-Relation x).others.items))
relation_model =
    relations.fold_out-Relation AtomTree (LevelTree (Joined Or)) (LevelTree (Joined Add)) TargetTree (LevelTree Single) (LevelTree (Joined And)) (LevelTree (Joined Or)) (Span × LevelTree (Joined Or)) (LevelTree (Joined Equal)) (StepOf Equal) FactorTree (LevelTree (Joined Add)) (LevelTree Single) (LevelTree (Joined Compare)) (StepOf Compare)
    atom_of expression_of sum_of target_of unary_of conjunction_of disjunction_of element_target_of equality_of equality_step_of factor_of factors_of prefixed_of relation_of relation_step_of

pub equality_step_model : (x : equalitysteps.EqualityStep) → equality_step_tree x ≡ ((equalitysteps.out-EqualityStep x).operator, relation_tree (equalitysteps.out-EqualityStep x).relation)
equality_step_model =
    equalitysteps.fold_out-EqualityStep AtomTree (LevelTree (Joined Or)) (LevelTree (Joined Add)) TargetTree (LevelTree Single) (LevelTree (Joined And)) (LevelTree (Joined Or)) (Span × LevelTree (Joined Or)) (LevelTree (Joined Equal)) (StepOf Equal) FactorTree (LevelTree (Joined Add)) (LevelTree Single) (LevelTree (Joined Compare)) (StepOf Compare)
    atom_of expression_of sum_of target_of unary_of conjunction_of disjunction_of element_target_of equality_of equality_step_of factor_of factors_of prefixed_of relation_of relation_step_of

pub relation_step_model : (x : relationsteps.RelationStep) → relation_step_tree x ≡ ((relationsteps.out-RelationStep x).operator, sum_tree (relationsteps.out-RelationStep x).sum)
relation_step_model =
    relationsteps.fold_out-RelationStep AtomTree (LevelTree (Joined Or)) (LevelTree (Joined Add)) TargetTree (LevelTree Single) (LevelTree (Joined And)) (LevelTree (Joined Or)) (Span × LevelTree (Joined Or)) (LevelTree (Joined Equal)) (StepOf Equal) FactorTree (LevelTree (Joined Add)) (LevelTree Single) (LevelTree (Joined Compare)) (StepOf Compare)
    atom_of expression_of sum_of target_of unary_of conjunction_of disjunction_of element_target_of equality_of equality_step_of factor_of factors_of prefixed_of relation_of relation_step_of

pub prefixed_model : (x : prefixeds.Prefixed) → prefixed_tree x ≡ Unary (prefixeds.out-Prefixed x).prefixes.items (atom_tree (prefixeds.out-Prefixed x).atom)
prefixed_model =
    prefixeds.fold_out-Prefixed AtomTree (LevelTree (Joined Or)) (LevelTree (Joined Add)) TargetTree (LevelTree Single) (LevelTree (Joined And)) (LevelTree (Joined Or)) (Span × LevelTree (Joined Or)) (LevelTree (Joined Equal)) (StepOf Equal) FactorTree (LevelTree (Joined Add)) (LevelTree Single) (LevelTree (Joined Compare)) (StepOf Compare)
    atom_of expression_of sum_of target_of unary_of conjunction_of disjunction_of element_target_of equality_of equality_step_of factor_of factors_of prefixed_of relation_of relation_step_of

pub factor_model : (x : factors.Factor) → factor_tree x ≡ ((factors.out-Factor x).operator, unary_tree (factors.out-Factor x).unary)
factor_model =
    factors.fold_out-Factor AtomTree (LevelTree (Joined Or)) (LevelTree (Joined Add)) TargetTree (LevelTree Single) (LevelTree (Joined And)) (LevelTree (Joined Or)) (Span × LevelTree (Joined Or)) (LevelTree (Joined Equal)) (StepOf Equal) FactorTree (LevelTree (Joined Add)) (LevelTree Single) (LevelTree (Joined Compare)) (StepOf Compare)
    atom_of expression_of sum_of target_of unary_of conjunction_of disjunction_of element_target_of equality_of equality_step_of factor_of factors_of prefixed_of relation_of relation_step_of

pub factors_model : (x : factor_lists.Factors) → factors_tree x ≡ sum_of_factors (unary_tree (factor_lists.out-Factors x).first) (factor_tree (factor_lists.out-Factors x).second ∷ map factor_tree (factor_lists.out-Factors x).others.items)
factors_model =
    factor_lists.fold_out-Factors AtomTree (LevelTree (Joined Or)) (LevelTree (Joined Add)) TargetTree (LevelTree Single) (LevelTree (Joined And)) (LevelTree (Joined Or)) (Span × LevelTree (Joined Or)) (LevelTree (Joined Equal)) (StepOf Equal) FactorTree (LevelTree (Joined Add)) (LevelTree Single) (LevelTree (Joined Compare)) (StepOf Compare)
    atom_of expression_of sum_of target_of unary_of conjunction_of disjunction_of element_target_of equality_of equality_step_of factor_of factors_of prefixed_of relation_of relation_step_of

pub of_factors : (f : Box factor_lists.Factors Global) → sum_tree (sum_variants.Factors f) ≡ factors_tree f.value
of_factors f = ap sum_tree (sym (sum_variants.rolls-Factors f)) ∙ sums.fold-roll-Sum AtomTree (LevelTree (Joined Or)) (LevelTree (Joined Add)) TargetTree (LevelTree Single) (LevelTree (Joined And)) (LevelTree (Joined Or)) (Span × LevelTree (Joined Or)) (LevelTree (Joined Equal)) (StepOf Equal) FactorTree (LevelTree (Joined Add)) (LevelTree Single) (LevelTree (Joined Compare)) (StepOf Compare)
    atom_of expression_of sum_of target_of unary_of conjunction_of disjunction_of element_target_of equality_of equality_step_of factor_of factors_of prefixed_of relation_of relation_step_of (layer.Factors f)
