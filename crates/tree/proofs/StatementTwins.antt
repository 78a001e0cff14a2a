-- Statements in memory and as trees, one form at a time.
use Rattle.std.proofs.Common.{◌≡◌, Box, Vec, map, sym, ap, ◌∙◌}
use Rattle.std.specs.Prelude.{Option, None, Some}
use Rattle.std.specs.Global.{Global}
use Rattle.std.specs.Option.{option_map}
use Rattle.tree.specs.ExpressionTrees.{expression_tree}
use Rattle.tree.specs.StatementTrees as trees
use Rattle.tree.specs.StatementTrees.{StatementTree, BlockTree, CaseTree, IfTree, SwitchTree, TestTree, statement_tree, block_tree, case_tree, if_tree, switch_tree, test_tree, statement_step, block_step, case_step, if_step, switch_step, test_step, statement_sequence, case_sequence, other_sequence, plain_tree}
use Rattle.tree.specs.declared.statement as made
use Rattle.tree.specs.declared.statement.Statement.TheOpen as layer
use Rattle.tree.specs.declared.statement.Statement.TheFolds as folds
use Rattle.tree.specs.declared.statement.Statement.TheVariants as variants

-- the structs

pub block_is : (b : made.Block.Block) → block_tree b ≡ trees.Braces (statement_sequence (map statement_tree b.statements.items)) b.close
block_is = folds.fold_out-Block StatementTree BlockTree CaseTree IfTree SwitchTree TestTree statement_step block_step case_step if_step switch_step test_step

pub case_is : (c : made.Case.Case) → case_tree c ≡ trees.Case c.word c.endpoint c.message c.«open» c.binds.items (statement_sequence (map statement_tree c.statements.items))
case_is = folds.fold_out-Case StatementTree BlockTree CaseTree IfTree SwitchTree TestTree statement_step block_step case_step if_step switch_step test_step

pub switch_is : (s : made.Switch.Switch) → switch_tree s ≡ record { word = (made.Switch.out-Switch s).word; first = case_tree (made.Switch.out-Switch s).first; others = map case_tree (made.Switch.out-Switch s).others.items; close = (made.Switch.out-Switch s).close }
switch_is = folds.fold_out-Switch StatementTree BlockTree CaseTree IfTree SwitchTree TestTree statement_step block_step case_step if_step switch_step test_step

pub test_is : (t : made.Test.Test) → test_tree t ≡ trees.Test t.word t.«open» (expression_tree t.test) (block_tree t.body)
test_is = folds.fold_out-Test StatementTree BlockTree CaseTree IfTree SwitchTree TestTree statement_step block_step case_step if_step switch_step test_step

if_made : (first : made.Test.Test) (others : Vec made.Test.Test Global) (o : Option made.Block.Block) → if_tree (made.If.roll-If (record { first = first; others = others; otherwise = o })) ≡ record { first = test_tree first; others = other_sequence (map test_tree others.items) (option_map block_tree o) }
if_made first others None = folds.fold-roll-If StatementTree BlockTree CaseTree IfTree SwitchTree TestTree statement_step block_step case_step if_step switch_step test_step (record { first = first; others = others; otherwise = None })
if_made first others (Some b) = folds.fold-roll-If StatementTree BlockTree CaseTree IfTree SwitchTree TestTree statement_step block_step case_step if_step switch_step test_step (record { first = first; others = others; otherwise = Some b })

pub if_is : (i : made.If.If) → if_tree i ≡ record { first = test_tree (made.If.out-If i).first; others = other_sequence (map test_tree (made.If.out-If i).others.items) (option_map block_tree (made.If.out-If i).otherwise) }
if_is i = ap if_tree (sym (made.If.roll-out-If i)) ∙ if_made (made.If.out-If i).first (made.If.out-If i).others (made.If.out-If i).otherwise

-- the forms of a statement

pub of_block : (b : made.Block.Block) → statement_tree (variants.Block b) ≡ trees.Block (block_tree b)
of_block b = ap statement_tree (sym (variants.rolls-Block b)) ∙ folds.fold-roll-Statement StatementTree BlockTree CaseTree IfTree SwitchTree TestTree statement_step block_step case_step if_step switch_step test_step (layer.Block b)

pub of_plain : (p : made.Plain.Plain) → statement_tree (variants.Plain p) ≡ trees.Plain (plain_tree p)
of_plain p = ap statement_tree (sym (variants.rolls-Plain p)) ∙ folds.fold-roll-Statement StatementTree BlockTree CaseTree IfTree SwitchTree TestTree statement_step block_step case_step if_step switch_step test_step (layer.Plain p)

pub of_if : (i : Box made.If.If Global) → statement_tree (variants.If i) ≡ trees.If (if_tree i.value).first (if_tree i.value).others
of_if i = ap statement_tree (sym (variants.rolls-If i)) ∙ folds.fold-roll-Statement StatementTree BlockTree CaseTree IfTree SwitchTree TestTree statement_step block_step case_step if_step switch_step test_step (layer.If i)

pub of_while : (t : Box made.Test.Test Global) → statement_tree (variants.While t) ≡ trees.While (test_tree t.value)
of_while t = ap statement_tree (sym (variants.rolls-While t)) ∙ folds.fold-roll-Statement StatementTree BlockTree CaseTree IfTree SwitchTree TestTree statement_step block_step case_step if_step switch_step test_step (layer.While t)

pub of_switch : (s : Box made.Switch.Switch Global) → statement_tree (variants.Switch s) ≡ trees.Switch (switch_tree s.value).word (switch_tree s.value).first (case_sequence (switch_tree s.value).others) (switch_tree s.value).close
of_switch s = ap statement_tree (sym (variants.rolls-Switch s)) ∙ folds.fold-roll-Statement StatementTree BlockTree CaseTree IfTree SwitchTree TestTree statement_step block_step case_step if_step switch_step test_step (layer.Switch s)
