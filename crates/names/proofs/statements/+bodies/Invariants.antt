use Rattle.std.proofs.Common.{◌∷◌, [], ◌+◌, map, drop, take}
use Rattle.std.specs.Option.{option_map}
use Rattle.tree.specs.StatementTrees.{statement_tree, statement_sequence, block_tree, test_tree, if_tree, switch_tree, case_sequence, other_sequence}
use Rattle.tree.specs.declared.statement as made
use Rattle.names.specs.Bodies as bodies
use Rattle.names.specs.Bodies.{statements_turn, test_turn, others_turn, case_turn, cases_turn, head_of}
use Rattle.names.specs.Frames.{IsNameFrame, AreSurroundings}
use Rattle.names.specs.Heads.{switch_heads}
use Rattle.names.specs.Variables.{NameFrame, follow}
use Rattle.names.proofs.TurnLemmas.{Ongoing}
use Rattle.names.proofs.statements.+bodies.Given as goal

abbrev pub invariant-judge_statements-loop-statement : goal.invariant-judge_statements-loop-statement
invariant-judge_statements-loop-statement l = (m : bodies.Surroundings) (f : NameFrame) → AreSurroundings m l.around → IsNameFrame m.program.text f l.fn.variables
    → Ongoing m.program.text l.fn.found.items l.found.items l.variables (statements_turn m (statement_sequence (map statement_tree l.statements)) f) (statements_turn m (statement_sequence (map statement_tree (drop l.statement-index l.statements))))

abbrev pub invariant-judge_if-loop-test : goal.invariant-judge_if-loop-test
invariant-judge_if-loop-test l = (m : bodies.Surroundings) (f : NameFrame) → AreSurroundings m l.around → IsNameFrame m.program.text f l.fn.variables
    → Ongoing m.program.text l.fn.found.items l.found.items l.variables
    (follow (test_turn m (if_tree l.branches).first f) (others_turn m (if_tree l.branches).others))
    (others_turn m (other_sequence (map test_tree (drop l.test-index l.test-items)) (option_map block_tree (made.If.out-If l.branches).otherwise)))

abbrev pub invariant-judge_switch-loop-index : goal.invariant-judge_switch-loop-index
invariant-judge_switch-loop-index l = (m : bodies.Surroundings) (f : NameFrame) → AreSurroundings m l.around → IsNameFrame m.program.text f l.fn.variables
    → Ongoing m.program.text l.fn.found.items l.found.items l.variables
    (follow (case_turn m (switch_heads (switch_tree l.switch)) [] (switch_tree l.switch).first f) (cases_turn m (switch_heads (switch_tree l.switch)) (head_of (switch_tree l.switch).first ∷ []) (case_sequence (switch_tree l.switch).others)))
    (cases_turn m (switch_heads (switch_tree l.switch)) (take (l.index + 1) (switch_heads (switch_tree l.switch))) (case_sequence (drop l.index (switch_tree l.switch).others)))
