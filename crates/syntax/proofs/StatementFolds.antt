-- The trees of structs that are built in memory from their fields.
use Rattle.std.proofs.Common.{◌≡◌, Some, None, Vec, map}
use Rattle.std.specs.Global.{Global}
use Rattle.tree.specs.ExpressionTrees.{expression_tree}
use Rattle.tree.specs.StatementTrees.{StatementTree, BlockTree, Braces, CaseTree, Case, IfTree, SwitchTree, TestTree, Test, statement_sequence, other_sequence, statement_step, block_step, case_step, if_step, switch_step, test_step, statement_tree, block_tree, case_tree, if_tree, switch_tree, test_tree}
use Rattle.tree.specs.declared.statement as made
use Rattle.tree.specs.declared.statement.Statement.TheOpen as layer
use Rattle.tree.specs.declared.statement.Statement.TheFolds.{fold-roll-Block, fold-roll-Case, fold-roll-If, fold-roll-Switch, fold-roll-Test}

pub rolled_block : (x : layer.Block-F made.Statement.Statement made.Block.Block made.Case.Case made.If.If made.Switch.Switch made.Test.Test) → block_tree (made.Block.roll-Block x) ≡ Braces (statement_sequence (map statement_tree x.statements.items)) x.close
rolled_block x = fold-roll-Block StatementTree BlockTree CaseTree IfTree SwitchTree TestTree statement_step block_step case_step if_step switch_step test_step x

pub rolled_case : (x : layer.Case-F made.Statement.Statement made.Block.Block made.Case.Case made.If.If made.Switch.Switch made.Test.Test) → case_tree (made.Case.roll-Case x) ≡ Case x.word x.endpoint x.message x.«open» x.binds.items (statement_sequence (map statement_tree x.statements.items))
rolled_case x = fold-roll-Case StatementTree BlockTree CaseTree IfTree SwitchTree TestTree statement_step block_step case_step if_step switch_step test_step x

pub rolled_if : (first : made.Test.Test) (others : Vec made.Test.Test Global) → if_tree (made.If.roll-If (record { first = first; others = others; otherwise = None })) ≡ record { first = test_tree first; others = other_sequence (map test_tree others.items) None }
rolled_if first others = fold-roll-If StatementTree BlockTree CaseTree IfTree SwitchTree TestTree statement_step block_step case_step if_step switch_step test_step (record { first = first; others = others; otherwise = None })

pub rolled_else : (first : made.Test.Test) (others : Vec made.Test.Test Global) (b : made.Block.Block) → if_tree (made.If.roll-If (record { first = first; others = others; otherwise = Some b })) ≡ record { first = test_tree first; others = other_sequence (map test_tree others.items) (Some (block_tree b)) }
rolled_else first others b = fold-roll-If StatementTree BlockTree CaseTree IfTree SwitchTree TestTree statement_step block_step case_step if_step switch_step test_step (record { first = first; others = others; otherwise = Some b })

pub rolled_switch : (x : layer.Switch-F made.Statement.Statement made.Block.Block made.Case.Case made.If.If made.Switch.Switch made.Test.Test) → switch_tree (made.Switch.roll-Switch x) ≡ record { word = x.word; first = case_tree x.first; others = map case_tree x.others.items; close = x.close }
rolled_switch x = fold-roll-Switch StatementTree BlockTree CaseTree IfTree SwitchTree TestTree statement_step block_step case_step if_step switch_step test_step x

pub rolled_test : (x : layer.Test-F made.Statement.Statement made.Block.Block made.Case.Case made.If.If made.Switch.Switch made.Test.Test) → test_tree (made.Test.roll-Test x) ≡ Test x.word x.«open» (expression_tree x.test) (block_tree x.body)
rolled_test x = fold-roll-Test StatementTree BlockTree CaseTree IfTree SwitchTree TestTree statement_step block_step case_step if_step switch_step test_step x
