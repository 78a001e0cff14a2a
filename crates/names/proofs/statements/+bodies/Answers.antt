use Rattle.std.proofs.Common.{◌≡◌, ◌∷◌, [], ◌+◌, Some, map, take, drop, List, length, get_or, sym, ap, ◌∙◌, subst, arith}
use Rattle.std.specs.Prelude.{OnOk}
use Rattle.std.specs.Option.{option_map}
use Rattle.std.proofs.lemmas.List.{length-map}
use Rattle.tree.specs.ExpressionTrees.{expression_tree}
use Rattle.tree.specs.StatementTrees.{statement_tree, statement_sequence, block_tree, if_tree, test_tree, other_sequence, case_tree, case_sequence, switch_tree, CaseTree, IfTree, SwitchTree}
use Rattle.tree.specs.StatementTrees as trees
use Rattle.tree.specs.declared.statement as made
use Rattle.names.specs.Bodies.{scope_in, in_loop, statement_turn, statements_turn, block_turn, test_turn, others_turn, case_turn, cases_turn, head_of}
use Rattle.names.specs.Cases.{binds_turn, awaited_message}
use Rattle.declarations.specs.Declarations.{bound_params}
use Rattle.names.specs.Expressions.{type_named, truth_mistakes}
use Rattle.names.specs.Frames.{Turned}
use Rattle.names.specs.Heads.{IsHeads, switch_heads}
use Rattle.names.specs.Shapes.{shape}
use Rattle.names.specs.Variables.{NameFrame, CheckedPiece, after_block, follow}
use Rattle.names.proofs.BranchLemmas.{last_branch, no_branch, no_statement, next_statement, next_test, next_case, case_there, last_case}
use Rattle.names.proofs.KeepLemmas.{kept, statements_extend, case_extends}
use Rattle.tree.proofs.StatementTwins.{block_is, case_is, if_is, test_is, switch_is, of_plain, of_while}
use Rattle.names.proofs.TurnLemmas.{Ongoing, goes_first, turned_then, adds_before, leaves, on_before, on_ends, goes_on, ends}
use Rattle.names.proofs.statements.+bodies.Goals as goal

pub judge_block-returns : goal.judge_block-returns
judge_block-returns t c = λ m f around frame.
    let text = m.program.text in
    let block = c.args.block.now in
    let old = c.args.found.now.items in
    let new = c.judge_statements.new.found.items in
    let v = c.judge_statements.new.variables in
    let sequence = statement_sequence (map statement_tree block.statements.items) in
    let whole = statements_turn m sequence f in
    let inner = subst (λ xs. Turned text old new v (statements_turn m (statement_sequence (map statement_tree xs)) f)) c.deref.ensures.value (c.in_ok-judge_statements.ensures m f around frame) in
    subst (λ b. Turned text old new c.leave.new.self (block_turn m b f)) (sym (block_is block))
    (leaves f whole (c.len-outer.ensures text f frame) (c.leave.ensures text) (kept f whole.frame (statements_extend m sequence f)) inner)

pub judge_statements-loop-statement-preserved : goal.judge_statements-loop-statement-preserved
judge_statements-loop-statement-preserved t c = λ m f around frame.
    let items = c.args.statements.now in
    let i = c.loop-statement.statement-index in
    let statement = c.statement-item.result in
    let whole = statements_turn m (statement_sequence (map statement_tree items)) f in
    let o = subst (Ongoing m.program.text c.args.found.now.items c.loop-statement.found.items c.loop-statement.variables whole)
    (next_statement m items i statement c.loop-statement-test.true c.statement-item.is) (c.loop-statement.invariant m f around frame) in
    goes_on (statement_turn m (statement_tree statement)) (statements_turn m (statement_sequence (map statement_tree (drop (i + 1) items)))) o
    (c.in_ok-judge_statement.ensures m o.frame around o.stands)

pub judge_statements-returns : goal.judge_statements-returns
judge_statements-returns t c = λ m f around frame.
    ends (no_statement m c.args.statements.now c.loop-statement.statement-index c.loop-statement-test.false (c.loop-statement.invariant m f around frame))

pub judge_case-returns : goal.judge_case-returns
judge_case-returns t c = λ m f all around frame heads at.
    let text = m.program.text in
    let case = c.args.case.now in
    let s = scope_in m f in
    let old = c.args.found.now.items in
    let headed = c.judge_head.new.found.items in
    let bound = c.judge_binds.new.found.items in
    let new = c.judge_statements.new.found.items in
    let v = c.judge_binds.new.variables in
    let w = c.judge_statements.new.variables in
    let params = bound_params (awaited_message s (type_named s case.endpoint) case.message) in
    let binding = binds_turn m.program params case.binds.items f in
    let sequence = statement_sequence (map statement_tree case.statements.items) in
    let first = c.in_ok-judge_binds.ensures m.program f around.scope frame in
    let second = subst (λ xs. Turned text bound new w (statements_turn m (statement_sequence (map statement_tree xs)) binding.frame)) c.deref.ensures.value (c.in_ok-judge_statements.ensures m binding.frame around first.frame) in
    let both = follow binding (statements_turn m sequence) in
    let earlier = take c.args.index all in
    let inner = leaves f both (c.len-kept.ensures text f frame) (c.leave.ensures text) (kept f both.frame (case_extends m params case.binds.items sequence f)) (turned_then binding (statements_turn m sequence) first second) in
    let here = c.in_ok-judge_head.ensures m.program f all (c.context.ensures m f around frame) heads in
    subst (λ k. Turned text old new c.leave.new.self (case_turn m all earlier k f)) (sym (case_is case))
    (adds_before _ (after_block f both) here inner)

pub judge_test-returns : goal.judge_test-returns
judge_test-returns t c = λ m f around frame.
    let text = m.program.text in
    let test = c.args.test.now in
    let old = c.args.found.now.items in
    let mid = c.judge_truth.new.found.items in
    let new = c.judge_block.new.found.items in
    let w = c.judge_block.new.variables in
    subst (λ x. OnOk c.judge_block.result (Turned text old new w (test_turn m x f))) (sym (test_is test))
    (on_before c.judge_block.result text old mid new w (truth_mistakes (scope_in m f) (shape (expression_tree test.test))) (block_turn m (block_tree test.body) f)
    (c.in_ok-judge_truth.ensures m.program f around.scope frame)
    (c.judge_block.ensures m f around frame))

pub judge_if-loop-test-init : goal.judge_if-loop-test-init
judge_if-loop-test-init t c = λ m f around frame.
    let text = m.program.text in
    let branches = c.args.branches.now in
    let tree = if_tree branches in
    let old = c.args.found.now.items in
    let new = c.judge_test.new.found.items in
    let v = c.judge_test.new.variables in
    let first = ap (λ (i : IfTree). i.first) (if_is branches) in
    let others = ap (λ (i : IfTree). i.others) (if_is branches)
    ∙ ap (λ (ts : List made.Test.Test). other_sequence (map test_tree ts) (option_map block_tree (made.If.out-If branches).otherwise)) (sym c.deref-test-items.ensures.value) in
    let turned = subst (λ k. Turned text old new v (test_turn m k f)) (sym first) (c.in_ok-judge_test.ensures m f around frame) in
    subst (λ rest. Ongoing text old new v (follow (test_turn m tree.first f) (others_turn m tree.others)) (others_turn m rest)) others
    (goes_first f (test_turn m tree.first) (others_turn m tree.others) turned)

pub judge_if-loop-test-preserved : goal.judge_if-loop-test-preserved
judge_if-loop-test-preserved t c = λ m f around frame.
    let branches = c.args.branches.now in
    let items = c.deref-test-items.result.now in
    let i = c.loop-test.test-index in
    let test = c.test-item.result in
    let last = option_map block_tree (made.If.out-If branches).otherwise in
    let whole = follow (test_turn m (if_tree branches).first f) (others_turn m (if_tree branches).others) in
    let o = subst (Ongoing m.program.text c.args.found.now.items c.loop-test.found.items c.loop-test.variables whole)
    (next_test m items i test last c.loop-test-test.true c.test-item.is) (c.loop-test.invariant m f around frame) in
    goes_on (test_turn m (test_tree test)) (others_turn m (other_sequence (map test_tree (drop (i + 1) items)) last)) o
    (c.in_ok-judge_test-2.ensures m o.frame around o.stands)

pub judge_if-returns-in-Some : goal.judge_if-returns-in-Some
judge_if-returns-in-Some t c = λ m f around frame.
    let branches = c.args.branches.now in
    let block = c.in-Some.block in
    let whole = follow (test_turn m (if_tree branches).first f) (others_turn m (if_tree branches).others) in
    let o = last_branch m c.deref-test-items.result.now c.loop-test.test-index _ block c.loop-test-test.false c.in-Some.is (c.loop-test.invariant m f around frame) in
    on_ends c.judge_block.result m.program.text c.args.found.now.items c.loop-test.found.items c.judge_block.new.found.items c.loop-test.variables c.judge_block.new.variables whole (block_turn m (block_tree block)) o
    (c.judge_block.ensures m o.frame around o.stands)

pub judge_if-returns-in-None : goal.judge_if-returns-in-None
judge_if-returns-in-None t c = λ m f around frame.
    ends (no_branch m c.deref-test-items.result.now c.loop-test.test-index _ c.loop-test-test.false c.in-None.is (c.loop-test.invariant m f around frame))

pub judge_statement-returns-in-Plain : goal.judge_statement-returns-in-Plain
judge_statement-returns-in-Plain t c = λ m f around frame.
    subst (λ x. OnOk c.judge_plain.result (Turned m.program.text c.args.found.now.items c.judge_plain.new.found.items c.judge_plain.new.variables (statement_turn m x f))) (sym (ap statement_tree c.in-Plain.is ∙ of_plain c.in-Plain.plain))
    (c.judge_plain.ensures m f around frame)

pub judge_statement-returns-in-While : goal.judge_statement-returns-in-While
judge_statement-returns-in-While t c = λ m f around frame.
    let tree = ap statement_tree c.in-While.is ∙ of_while c.in-While.test ∙ ap (λ t. trees.While (test_tree t)) (sym c.deref-in-While.ensures) in
    subst (λ x. OnOk c.judge_test.result (Turned m.program.text c.args.found.now.items c.judge_test.new.found.items c.judge_test.new.variables (statement_turn m x f)))
    (sym tree) (c.judge_test.ensures (in_loop m) f (c.within_loop-inner.ensures m around) frame)

pub judge_switch-loop-index-init : goal.judge_switch-loop-index-init
judge_switch-loop-index-init t c = λ m f around frame.
    let text = m.program.text in
    let switch = c.args.switch.now in
    let tree = switch_tree switch in
    let all = switch_heads tree in
    let old = c.args.found.now.items in
    let new = c.judge_case.new.found.items in
    let first = ap (λ (s : SwitchTree). s.first) (switch_is switch) in
    let go : NameFrame → CheckedPiece = case_turn m all [] tree.first in
    let rest : NameFrame → CheckedPiece = cases_turn m all (head_of tree.first ∷ []) (case_sequence tree.others) in
    let heads = subst (λ u. IsHeads u all c.in_ok-heads.heads) around.scope.text_is c.in_ok-heads.ensures in
    let turned = subst (λ k. Turned text old new c.judge_case.new.variables (case_turn m all [] k f)) (sym first) (c.in_ok-judge_case.ensures m f all around frame heads (ap (λ k. Some (head_of k)) first)) in
    goes_first f go rest turned

pub judge_switch-loop-index-preserved : goal.judge_switch-loop-index-preserved
judge_switch-loop-index-preserved t c = λ m f around frame.
    let text = m.program.text in
    let switch = c.args.switch.now in
    let i = c.loop-index.index in
    let tree = switch_tree switch in
    let all = switch_heads tree in
    let others = ap (λ (s : SwitchTree). s.others) (switch_is switch) in
    let case = c.case-item.result in
    let old = c.args.found.now.items in
    let size = ap (λ (l : List CaseTree). length l) others ∙ length-map (made.Switch.out-Switch switch).others.items case_tree in
    let items = c.deref-case-items.ensures.value in
    let there = subst (λ (l : List made.Case.Case). case ≡ get_or l i case) items c.case-item.is in
    let next = next_case m (head_of tree.first) tree.others i (case_tree case) (omega (arith, size, ap (λ (l : List made.Case.Case). length l) items, c.loop-index-test.true)) (case_there switch i case others there) in
    let whole = follow (case_turn m all [] tree.first f) (cases_turn m all (head_of tree.first ∷ []) (case_sequence tree.others)) in
    let o = subst (Ongoing text old c.loop-index.found.items c.loop-index.variables whole) next.rest (c.loop-index.invariant m f around frame) in
    goes_on (case_turn m all (take (i + 1) all) (case_tree case)) (cases_turn m all (take (i + 1 + 1) all) (case_sequence (drop (i + 1) tree.others))) o
    (c.in_ok-judge_case-2.ensures m o.frame all around o.stands (subst (λ u. IsHeads u all c.in_ok-heads.heads) around.scope.text_is c.in_ok-heads.ensures) next.head)

pub judge_switch-returns : goal.judge_switch-returns
judge_switch-returns t c = λ m f around frame.
    let switch = c.args.switch.now in
    let i = c.loop-index.index in
    let tree = switch_tree switch in
    let all = switch_heads tree in
    let others = ap (λ (s : SwitchTree). s.others) (switch_is switch) in
    let size = ap (λ (l : List CaseTree). length l) others ∙ length-map (made.Switch.out-Switch switch).others.items case_tree in
    let whole = follow (case_turn m all [] tree.first f) (cases_turn m all (head_of tree.first ∷ []) (case_sequence tree.others)) in
    ends (subst (Ongoing m.program.text c.args.found.now.items c.loop-index.found.items c.loop-index.variables whole) (last_case m all (take (i + 1) all) tree.others i (omega (arith, size, ap (λ (l : List made.Case.Case). length l) c.deref-case-items.ensures.value, c.loop-index-test.false))) (c.loop-index.invariant m f around frame))
