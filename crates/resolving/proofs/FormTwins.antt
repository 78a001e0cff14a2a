-- The tree of each form of a target, and the model of each form of a resolved statement.
use Rattle.std.proofs.Common.{◌≡◌, sym, ap, ◌∙◌, Box}
use Rattle.std.specs.Global.{Global}
use Rattle.source.specs.declared.token.Span.{Span}
use Rattle.tree.specs.Expressions as targets
use Rattle.tree.specs.Expressions.{LevelTree, StepOf, AtomTree, TargetTree}
use Rattle.tree.specs.Factors.{FactorTree}
use Rattle.tree.specs.ExpressionTrees.{expression_tree, target_tree, atom_of, expression_of, sum_of, target_of, unary_of, conjunction_of, disjunction_of, element_target_of, equality_of, equality_step_of, factor_of, factors_of, prefixed_of, relation_of, relation_step_of}
use Rattle.tree.specs.Operators.{Joined, Single, Or, And, Equal, Compare, Add}
use Rattle.tree.specs.declared.expression.ElementTarget as elements
use Rattle.tree.specs.declared.expression.FieldTarget.{FieldTarget}
use Rattle.tree.specs.declared.expression.Target as target_folds
use Rattle.tree.specs.declared.expression.Atom.TheOpen as target_layer
use Rattle.tree.specs.declared.expression.Target.TheVariants as target
use Rattle.program.specs.Statements as seen
use Rattle.program.specs.Statements.{StatementModel, BlockModel, CaseModel, IfModel, TestModel, statement_model, new_model, call_model, send_model}
use Rattle.program.specs.declared.call.Call as resolved_call
use Rattle.program.specs.declared.call.Send.{Send}
use Rattle.program.specs.declared.statement as resolved
use Rattle.program.specs.declared.statement.Statement.TheOpen as seen_layer
use Rattle.program.specs.declared.statement.Statement.TheFolds as seen_folds
use Rattle.program.specs.declared.statement.Statement.TheVariants as seen_variants

-- the forms of a target

pub of_variable : (name : Span) → target_tree (target.Variable name) ≡ targets.Variable name
of_variable name =
    ap target_tree (sym (target.rolls-Variable name))
    ∙ target_folds.fold-roll-Target AtomTree (LevelTree (Joined Or)) (LevelTree (Joined Add)) TargetTree (LevelTree Single) (LevelTree (Joined And)) (LevelTree (Joined Or)) (Span × LevelTree (Joined Or)) (LevelTree (Joined Equal)) (StepOf Equal) FactorTree (LevelTree (Joined Add)) (LevelTree Single) (LevelTree (Joined Compare)) (StepOf Compare) atom_of expression_of sum_of target_of unary_of conjunction_of disjunction_of element_target_of equality_of equality_step_of factor_of factors_of prefixed_of relation_of relation_step_of (target_layer.Variable name)

pub of_field : (f : Box FieldTarget Global) → target_tree (target.Field f) ≡ targets.Field f.value.variable f.value.field
of_field f =
    ap target_tree (sym (target.rolls-Field f))
    ∙ target_folds.fold-roll-Target AtomTree (LevelTree (Joined Or)) (LevelTree (Joined Add)) TargetTree (LevelTree Single) (LevelTree (Joined And)) (LevelTree (Joined Or)) (Span × LevelTree (Joined Or)) (LevelTree (Joined Equal)) (StepOf Equal) FactorTree (LevelTree (Joined Add)) (LevelTree Single) (LevelTree (Joined Compare)) (StepOf Compare) atom_of expression_of sum_of target_of unary_of conjunction_of disjunction_of element_target_of equality_of equality_step_of factor_of factors_of prefixed_of relation_of relation_step_of (target_layer.Field f)

pub of_element : (e : Box elements.ElementTarget Global) → target_tree (target.Element e) ≡ targets.Element (elements.out-ElementTarget e.value).variable (expression_tree (elements.out-ElementTarget e.value).index)
of_element e =
    ap target_tree (sym (target.rolls-Element e))
    ∙ target_folds.fold-roll-Target AtomTree (LevelTree (Joined Or)) (LevelTree (Joined Add)) TargetTree (LevelTree Single) (LevelTree (Joined And)) (LevelTree (Joined Or)) (Span × LevelTree (Joined Or)) (LevelTree (Joined Equal)) (StepOf Equal) FactorTree (LevelTree (Joined Add)) (LevelTree Single) (LevelTree (Joined Compare)) (StepOf Compare) atom_of expression_of sum_of target_of unary_of conjunction_of disjunction_of element_target_of equality_of equality_step_of factor_of factors_of prefixed_of relation_of relation_step_of (target_layer.Element e)
    ∙ ap (λ (x : Span × LevelTree (Joined Or)). targets.Element x.0 x.1)
    (elements.fold_out-ElementTarget AtomTree (LevelTree (Joined Or)) (LevelTree (Joined Add)) TargetTree (LevelTree Single) (LevelTree (Joined And)) (LevelTree (Joined Or)) (Span × LevelTree (Joined Or)) (LevelTree (Joined Equal)) (StepOf Equal) FactorTree (LevelTree (Joined Add)) (LevelTree Single) (LevelTree (Joined Compare)) (StepOf Compare) atom_of expression_of sum_of target_of unary_of conjunction_of disjunction_of element_target_of equality_of equality_step_of factor_of factors_of prefixed_of relation_of relation_step_of e.value)

-- the forms of a resolved statement

pub new_is : (n : resolved.New.New) → statement_model (seen_variants.New n) ≡ seen.New (new_model n)
new_is n = ap statement_model (sym (seen_variants.rolls-New n)) ∙ seen_folds.fold-roll-Statement StatementModel BlockModel CaseModel IfModel TestModel seen.statement_step seen.block_step seen.case_step seen.if_step seen.test_step (seen_layer.New n)

pub called_is : (c : Box resolved_call.Call Global) → statement_model (seen_variants.Call c) ≡ seen.Call (call_model c.value)
called_is c = ap statement_model (sym (seen_variants.rolls-Call c)) ∙ seen_folds.fold-roll-Statement StatementModel BlockModel CaseModel IfModel TestModel seen.statement_step seen.block_step seen.case_step seen.if_step seen.test_step (seen_layer.Call c)

pub started_is : (c : Box resolved_call.Call Global) → statement_model (seen_variants.Start c) ≡ seen.Start (call_model c.value)
started_is c = ap statement_model (sym (seen_variants.rolls-Start c)) ∙ seen_folds.fold-roll-Statement StatementModel BlockModel CaseModel IfModel TestModel seen.statement_step seen.block_step seen.case_step seen.if_step seen.test_step (seen_layer.Start c)

pub sent_is : (s : Send) → statement_model (seen_variants.Send s) ≡ seen.Send (send_model s)
sent_is s = ap statement_model (sym (seen_variants.rolls-Send s)) ∙ seen_folds.fold-roll-Statement StatementModel BlockModel CaseModel IfModel TestModel seen.statement_step seen.block_step seen.case_step seen.if_step seen.test_step (seen_layer.Send s)
