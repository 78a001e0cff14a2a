-- The trees of expressions that are built in memory.
use Rattle.std.proofs.Common.{◌≡◌, ◌∷◌, [], sym, ap, ◌∙◌, map}
use Rattle.std.specs.Prelude.{Box, Vec}
use Rattle.std.specs.Global.{Global}
use Rattle.std.proofs.lemmas.Simd.{map-map}
use Rattle.source.specs.declared.token.Span.{Span}
use Rattle.tree.specs.Operators.{Or, And, Equal, Compare}
use Rattle.tree.specs.Expressions.{Unary, Chain, Number, True, False, Target, Field, StepOf}
use Rattle.tree.specs.Factors.{sum_of_factors, step_sequence, sum_alone, term_alone}
use Rattle.tree.specs.ExpressionTrees.{without_sign, atom_of, expression_of, sum_of, target_of, unary_of, conjunction_of, disjunction_of, element_target_of, equality_of, equality_step_of, factor_of, factors_of, prefixed_of, relation_of, relation_step_of}
use Rattle.tree.specs.ExpressionTrees.{atom_tree, expression_tree, sum_tree, target_tree, unary_tree, conjunction_tree, disjunction_tree, equality_tree, equality_step_tree, factor_tree, factors_tree, prefixed_tree, relation_tree, relation_step_tree}
use Rattle.tree.specs.declared.expression.Prefix.{Prefix}
use Rattle.tree.specs.declared.expression.FieldTarget.{FieldTarget}
use Rattle.tree.specs.declared.expression.Atom.TheOpen as layer
use Rattle.tree.specs.declared.expression.Atom.TheVariants as atom
use Rattle.tree.specs.declared.expression.Expression.TheVariants as expression
use Rattle.tree.specs.declared.expression.Sum.TheVariants as sum
use Rattle.tree.specs.declared.expression.Target.TheVariants as place
use Rattle.tree.specs.declared.expression.Unary.TheVariants as unary
use Rattle.tree.specs.declared.expression.Atom as atoms
use Rattle.tree.specs.declared.expression.Conjunction as conjunctions
use Rattle.tree.specs.declared.expression.Disjunction as disjunctions
use Rattle.tree.specs.declared.expression.Equality as equalities
use Rattle.tree.specs.declared.expression.EqualityStep as equality_steps
use Rattle.tree.specs.declared.expression.Expression as expressions
use Rattle.tree.specs.declared.expression.Factor as factors
use Rattle.tree.specs.declared.expression.Factors as factor_lists
use Rattle.tree.specs.declared.expression.Prefixed as prefixeds
use Rattle.tree.specs.declared.expression.Relation as relations
use Rattle.tree.specs.declared.expression.RelationStep as relation_steps
use Rattle.tree.specs.declared.expression.Sum as sums
use Rattle.tree.specs.declared.expression.Target as targets
use Rattle.tree.specs.declared.expression.Unary as unaries

pub summed_made : (s : sums.Sum) → expression_tree (expression.Sum s) ≡ sum_alone (sum_tree s)
summed_made s = ap expression_tree (sym (expression.rolls-Sum s)) ∙ expressions.fold-roll-Expression _ _ _ _ _ _ _ _ _ _ _ _ _ _ _
    atom_of expression_of sum_of target_of unary_of conjunction_of disjunction_of element_target_of equality_of equality_step_of
    factor_of factors_of prefixed_of relation_of relation_step_of (layer.Sum s)

pub disjunction_made : (first : conjunctions.Conjunction) (others : Vec conjunctions.Conjunction Global) → disjunction_tree (disjunctions.roll-Disjunction (record { first = first; others = others })) ≡ Chain Or (conjunction_tree first) (step_sequence Or (map (without_sign conjunction_tree) others.items))
disjunction_made first others = disjunctions.fold-roll-Disjunction _ _ _ _ _ _ _ _ _ _ _ _ _ _ _
    atom_of expression_of sum_of target_of unary_of conjunction_of disjunction_of element_target_of equality_of equality_step_of
    factor_of factors_of prefixed_of relation_of relation_step_of (record { first = first; others = others })
    ∙ ap (λ t. Chain Or (conjunction_tree first) (step_sequence Or t)) (map-map {C = StepOf Or} (λ x. (tt, x)) conjunction_tree others.items)

pub conjunction_made : (first : equalities.Equality) (others : Vec equalities.Equality Global) → conjunction_tree (conjunctions.roll-Conjunction (record { first = first; others = others })) ≡ Chain And (equality_tree first) (step_sequence And (map (without_sign equality_tree) others.items))
conjunction_made first others = conjunctions.fold-roll-Conjunction _ _ _ _ _ _ _ _ _ _ _ _ _ _ _
    atom_of expression_of sum_of target_of unary_of conjunction_of disjunction_of element_target_of equality_of equality_step_of
    factor_of factors_of prefixed_of relation_of relation_step_of (record { first = first; others = others })
    ∙ ap (λ t. Chain And (equality_tree first) (step_sequence And t)) (map-map {C = StepOf And} (λ x. (tt, x)) equality_tree others.items)

pub equality_made : (first : relations.Relation) (others : Vec equality_steps.EqualityStep Global) → equality_tree (equalities.roll-Equality (record { first = first; others = others })) ≡ Chain Equal (relation_tree first) (step_sequence Equal (map equality_step_tree others.items))
equality_made first others = equalities.fold-roll-Equality _ _ _ _ _ _ _ _ _ _ _ _ _ _ _
    atom_of expression_of sum_of target_of unary_of conjunction_of disjunction_of element_target_of equality_of equality_step_of
    factor_of factors_of prefixed_of relation_of relation_step_of (record { first = first; others = others })

pub relation_made : (first : sums.Sum) (others : Vec relation_steps.RelationStep Global) → relation_tree (relations.roll-Relation (record { first = first; others = others })) ≡ Chain Compare (sum_tree first) (step_sequence Compare (map relation_step_tree others.items))
relation_made first others = relations.fold-roll-Relation _ _ _ _ _ _ _ _ _ _ _ _ _ _ _
    atom_of expression_of sum_of target_of unary_of conjunction_of disjunction_of element_target_of equality_of equality_step_of
    factor_of factors_of prefixed_of relation_of relation_step_of (record { first = first; others = others })

pub termed_made : (u : unaries.Unary) → sum_tree (sum.Unary u) ≡ term_alone (unary_tree u)
termed_made u = ap sum_tree (sym (sum.rolls-Unary u)) ∙ sums.fold-roll-Sum _ _ _ _ _ _ _ _ _ _ _ _ _ _ _
    atom_of expression_of sum_of target_of unary_of conjunction_of disjunction_of element_target_of equality_of equality_step_of
    factor_of factors_of prefixed_of relation_of relation_step_of (layer.Unary u)

pub factors_made : (first : unaries.Unary) (second : factors.Factor) (others : Vec factors.Factor Global) → factors_tree (factor_lists.roll-Factors (record { first = first; second = second; others = others })) ≡ sum_of_factors (unary_tree first) (factor_tree second ∷ map factor_tree others.items)
factors_made first second others = factor_lists.fold-roll-Factors _ _ _ _ _ _ _ _ _ _ _ _ _ _ _
    atom_of expression_of sum_of target_of unary_of conjunction_of disjunction_of element_target_of equality_of equality_step_of
    factor_of factors_of prefixed_of relation_of relation_step_of (record { first = first; second = second; others = others })

pub plain_made : (a : atoms.Atom) → unary_tree (unary.Atom a) ≡ Unary [] (atom_tree a)
plain_made a = ap unary_tree (sym (unary.rolls-Atom a)) ∙ unaries.fold-roll-Unary _ _ _ _ _ _ _ _ _ _ _ _ _ _ _
    atom_of expression_of sum_of target_of unary_of conjunction_of disjunction_of element_target_of equality_of equality_step_of
    factor_of factors_of prefixed_of relation_of relation_step_of (layer.Atom a)

pub prefixed_made : (p : Box prefixeds.Prefixed Global) → unary_tree (unary.Prefixed p) ≡ prefixed_tree p.value
prefixed_made p = ap unary_tree (sym (unary.rolls-Prefixed p)) ∙ unaries.fold-roll-Unary _ _ _ _ _ _ _ _ _ _ _ _ _ _ _
    atom_of expression_of sum_of target_of unary_of conjunction_of disjunction_of element_target_of equality_of equality_step_of
    factor_of factors_of prefixed_of relation_of relation_step_of (layer.Prefixed p)

pub prefixed_parts : (prefixes : Vec Prefix Global) (a : atoms.Atom) → prefixed_tree (prefixeds.roll-Prefixed (record { prefixes = prefixes; atom = a })) ≡ Unary prefixes.items (atom_tree a)
prefixed_parts prefixes a = prefixeds.fold-roll-Prefixed _ _ _ _ _ _ _ _ _ _ _ _ _ _ _
    atom_of expression_of sum_of target_of unary_of conjunction_of disjunction_of element_target_of equality_of equality_step_of
    factor_of factors_of prefixed_of relation_of relation_step_of (record { prefixes = prefixes; atom = a })

pub number_made : (span : Span) → atom_tree (atom.Number span) ≡ Number span
number_made span = ap atom_tree (sym (atom.rolls-Number span)) ∙ atoms.fold-roll-Atom _ _ _ _ _ _ _ _ _ _ _ _ _ _ _
    atom_of expression_of sum_of target_of unary_of conjunction_of disjunction_of element_target_of equality_of equality_step_of
    factor_of factors_of prefixed_of relation_of relation_step_of (layer.Number span)

pub true_made : (span : Span) → atom_tree (atom.True span) ≡ True span
true_made span = ap atom_tree (sym (atom.rolls-True span)) ∙ atoms.fold-roll-Atom _ _ _ _ _ _ _ _ _ _ _ _ _ _ _
    atom_of expression_of sum_of target_of unary_of conjunction_of disjunction_of element_target_of equality_of equality_step_of
    factor_of factors_of prefixed_of relation_of relation_step_of (layer.True span)

pub false_made : (span : Span) → atom_tree (atom.False span) ≡ False span
false_made span = ap atom_tree (sym (atom.rolls-False span)) ∙ atoms.fold-roll-Atom _ _ _ _ _ _ _ _ _ _ _ _ _ _ _
    atom_of expression_of sum_of target_of unary_of conjunction_of disjunction_of element_target_of equality_of equality_step_of
    factor_of factors_of prefixed_of relation_of relation_step_of (layer.False span)

pub target_made : (t : targets.Target) → atom_tree (atom.Target t) ≡ Target (target_tree t)
target_made t = ap atom_tree (sym (atom.rolls-Target t)) ∙ atoms.fold-roll-Atom _ _ _ _ _ _ _ _ _ _ _ _ _ _ _
    atom_of expression_of sum_of target_of unary_of conjunction_of disjunction_of element_target_of equality_of equality_step_of
    factor_of factors_of prefixed_of relation_of relation_step_of (layer.Target t)

pub field_made : (f : Box FieldTarget Global) (variable field : Span) → f.value ≡ record { variable = variable; field = field } → target_tree (place.Field f) ≡ Field variable field
field_made f variable field is = ap target_tree (sym (place.rolls-Field f)) ∙ targets.fold-roll-Target _ _ _ _ _ _ _ _ _ _ _ _ _ _ _
    atom_of expression_of sum_of target_of unary_of conjunction_of disjunction_of element_target_of equality_of equality_step_of
    factor_of factors_of prefixed_of relation_of relation_step_of (layer.Field f) ∙ ap (λ (g : FieldTarget). Field g.variable g.field) is
