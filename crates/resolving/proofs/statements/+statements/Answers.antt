use Rattle.std.proofs.Common.{◌≡◌, ap, ◌∙◌, ◌+◌, ◌<◌, ◌≤◌, ◌++◌, List, length, drop, get_or, map, take, sym, subst, arith}
use Rattle.std.proofs.lemmas.Result.{IfOk-weaker}
use Rattle.std.specs.Prelude.{IfOk}
use Rattle.std.specs.Option.{option_map}
use Rattle.tree.specs.ExpressionTrees.{expression_tree}
use Rattle.tree.specs.StatementTrees as trees
use Rattle.tree.specs.StatementTrees.{CaseTrees, IfTree, SwitchTree, statement_tree, statement_sequence, block_tree, case_tree, case_sequence, if_tree, switch_tree, test_tree}
use Rattle.tree.specs.declared.statement as stated
use Rattle.program.specs.Statements as seen
use Rattle.program.specs.Statements.{BlockModel, CasesModel, IfModel, statement_model, block_model, case_model, if_model, test_model}
use Rattle.program.specs.declared.statement as made
use Rattle.program.specs.declared.statement.Statement.{Statement}
use Rattle.program.specs.declared.statement.Test.{Test}
use Rattle.resolving.specs.Around.{program_in}
use Rattle.resolving.specs.Binds.{binds_told}
use Rattle.resolving.specs.Frames.{staying_model}
use Rattle.resolving.specs.Reads.{reads}
use Rattle.resolving.specs.Steps.{IsResolvedPiece, pieces_in_order}
use Rattle.resolving.specs.Told.{ResolvedPiece, follow, map_piece, block_told, block_of, others_told, awaited_as, awaited_message, awaited_params, cases_told, statement_told, statements_told, test_told}
use Rattle.resolving.specs.Staying.{in_switch}
use Rattle.resolving.proofs.BlockLemmas.{block_ends, if_told, made_told, number_is, told_as, test_ends}
use Rattle.resolving.proofs.BodyLemmas.{sequence_told, walks_all, walks_more}
use Rattle.resolving.proofs.CaseLemmas.{CasesGo, bound_in, case_ends, cases_end, cases_more, cases_start, first_inside, other_inside, switch_cases}
use Rattle.resolving.proofs.KeepLemmas.{kept, case_extends, statements_extend}
use Rattle.resolving.proofs.SeenTwins as seen_as
use Rattle.resolving.proofs.SeenTwins.{block_made, if_made}
use Rattle.tree.proofs.StatementTwins.{block_is, if_is, switch_is, of_block, of_plain, of_if, of_while, of_switch}
use Rattle.resolving.proofs.statements.+statements.Goals as goal

pub tell_statements-loop-statement-preserved : goal.tell_statements-loop-statement-preserved
tell_statements-loop-statement-preserved t c = λ items own f round h.
    let text = c.args.text.now in
    let p = program_in text items in
    let stays = staying_model c.args.stays in
    let xs = c.args.statements.now in
    let i = c.loop-statement.statement-index in
    let after = c.tell_statement.new.locals in
    subst (λ l. IsResolvedPiece text (pieces_in_order (λ s. statement_told p own stays (statement_tree s)) (take (i + 1) xs) f) (map statement_model l) after) (sym {A = List Statement} c.in_ok-push.ensures.items)
    (walks_more text (λ s. statement_told p own stays (statement_tree s)) statement_model xs i c.statement-item.result f _ c.loop-statement.told.items c.loop-statement.locals after c.loop-statement-test.true c.statement-item.is
    (c.loop-statement.invariant items own f round h) (λ g here. c.in_ok-tell_statement.ensures items own g round here))

pub tell_statements-returns : goal.tell_statements-returns
tell_statements-returns t c = λ items own f round h.
    let text = c.args.text.now in
    let p = program_in text items in
    let stays = staying_model c.args.stays in
    let xs = c.args.statements.now in
    sequence_told p own stays (map statement_tree xs) f _ c.loop-statement.locals
    (walks_all text (statement_told p own stays) statement_tree xs c.loop-statement.statement-index f _ c.loop-statement.locals c.loop-statement-test.false (c.loop-statement.invariant items own f round h))

pub tell_tests-loop-test-preserved : goal.tell_tests-loop-test-preserved
tell_tests-loop-test-preserved t c = λ items own f round h.
    let text = c.args.text.now in
    let p = program_in text items in
    let stays = staying_model c.args.stays in
    let xs = c.args.tests.now in
    let i = c.loop-test.test-index in
    let after = c.tell_test.new.locals in
    subst (λ l. IsResolvedPiece text (pieces_in_order (λ s. test_told p own stays (test_tree s)) (take (i + 1) xs) f) (map test_model l) after) (sym {A = List Test} c.in_ok-push.ensures.items)
    (walks_more text (λ s. test_told p own stays (test_tree s)) test_model xs i c.test-item.result f _ c.loop-test.told.items c.loop-test.locals after c.loop-test-test.true c.test-item.is
    (c.loop-test.invariant items own f round h) (λ g here. c.in_ok-tell_test.ensures items own g round here))

pub tell_tests-returns : goal.tell_tests-returns
tell_tests-returns t c = λ items own f round h.
    let text = c.args.text.now in
    let p = program_in text items in
    let stays = staying_model c.args.stays in
    walks_all text (test_told p own stays) test_tree c.args.tests.now c.loop-test.test-index f _ c.loop-test.locals c.loop-test-test.false (c.loop-test.invariant items own f round h)

pub tell_block-returns : goal.tell_block-returns
tell_block-returns t c = λ items own f round h.
    let text = c.args.text.now in
    let p = program_in text items in
    let stays = staying_model c.args.stays in
    let block = c.args.block.now in
    let told = c.in_ok-statements.statements in
    let inside = c.tell_statements.new.locals in
    let after = c.leave.new.self in
    let sequence = statement_sequence (map statement_tree block.statements.items) in
    let t = statements_told p own stays sequence f in
    let inner = subst (λ xs. IsResolvedPiece text (statements_told p own stays (statement_sequence (map statement_tree xs)) f) (seen.statement_sequence (map statement_model told.items)) inside) c.deref.ensures.value (c.in_ok-statements.ensures items own f round h) in
    let whole = block_model (made.Block.roll-Block (record { statements = told; forget = c.forget_past-forget.result })) in
    subst (λ b. IsResolvedPiece text (block_told p own stays b f) whole after) (sym (block_is block))
    (subst (λ (b : BlockModel). IsResolvedPiece text (block_of block.close.place f t) b after) (sym (block_made told c.forget_past-forget.result))
    (block_ends text block.close.place f t _ inside after c.len-outer.result c.last-last.result c.last.result c.forget_past-forget.result (kept f t.frame (statements_extend p own stays sequence f))
    (c.len-outer.ensures text f h) (c.last-last.ensures text f h) (c.last.ensures text t.frame inner.frame) c.forget_past-forget.ensures (c.leave.ensures text) inner))

pub tell_if-returns : goal.tell_if-returns
tell_if-returns t c = λ items own f round h.
    let text = c.args.text.now in
    let p = program_in text items in
    let stays = staying_model c.args.stays in
    let parts = stated.If.out-If c.args.branches.now in
    let last = c.tell_otherwise.new.locals in
    let made_of = if_made c.in_ok-first.first c.in_ok-others.others c.in_ok-otherwise.otherwise in
    let whole = if_model (made.If.roll-If (record { first = c.in_ok-first.first; others = c.in_ok-others.others; otherwise = c.in_ok-otherwise.otherwise })) in
    subst (λ (b : IfTree). IsResolvedPiece text (follow seen.If (test_told p own stays b.first f) (others_told p own stays b.others)) (seen.If whole.first whole.others) last) (sym (if_is c.args.branches.now))
    (subst (λ (i : IfModel). IsResolvedPiece text (follow seen.If (test_told p own stays (test_tree parts.first) f) (others_told p own stays (trees.other_sequence (map test_tree parts.others.items) (option_map block_tree parts.otherwise)))) (seen.If i.first i.others) last) (sym made_of)
    (if_told p own stays (test_tree parts.first) (map test_tree parts.others.items) (option_map block_tree parts.otherwise) f _ _ _ c.tell_test.new.locals c.tell_tests.new.locals last
    (c.in_ok-first.ensures items own f round h)
    (λ g here. subst (λ ts. IsResolvedPiece text (pieces_in_order (test_told p own stays) (map test_tree ts) g) (map test_model c.in_ok-others.others.items) c.tell_tests.new.locals) c.deref.ensures.value (c.in_ok-others.ensures items own g round here))
    (λ g here. c.in_ok-otherwise.ensures items own g round here)))

pub tell_otherwise-returns-in_ok-block-in-Some : goal.tell_otherwise-returns-in_ok-block-in-Some
tell_otherwise-returns-in_ok-block-in-Some t c = λ items own f round h.
    let text = c.args.text.now in
    let p = program_in text items in
    let stays = staying_model c.args.stays in
    subst (λ o. IsResolvedPiece text (others_told p own stays (trees.last_other (option_map block_tree o)) f) (seen.Else (block_model c.in_ok-block-in-Some.block)) c.tell_block.new.locals) (sym c.in-Some.is)
    (made_told text seen.Else _ _ c.tell_block.new.locals (c.in_ok-block-in-Some.ensures items own f round h))

pub tell_statement-returns-in_ok-tell_block-in-Block : goal.tell_statement-returns-in_ok-tell_block-in-Block
tell_statement-returns-in_ok-tell_block-in-Block t c = λ items own f round h.
    let p = program_in c.args.text.now items in
    told_as p own (staying_model c.args.stays) f (ap statement_tree c.in-Block.is ∙ of_block c.in-Block.block) (seen_as.of_block c.in_ok-tell_block-in-Block.field-0)
    (made_told p.text seen.Block _ _ c.tell_block.new.locals (c.in_ok-tell_block-in-Block.ensures items own f round h))

pub tell_statement-returns-in_ok-told-in-If : goal.tell_statement-returns-in_ok-told-in-If
tell_statement-returns-in_ok-told-in-If t c = λ items own f round h.
    let p = program_in c.args.text.now items in
    let tree = ap statement_tree c.in-If.is ∙ of_if c.in-If.branches ∙ ap (λ i. trees.If (if_tree i).first (if_tree i).others) (sym c.deref.ensures) in
    IfOk-weaker c.if_of.result _ _ (λ s is. told_as p own (staying_model c.args.stays) f tree is (c.in_ok-told-in-If.ensures items own f round h)) c.if_of.ensures

pub tell_statement-returns-in_ok-told-in-While : goal.tell_statement-returns-in_ok-told-in-While
tell_statement-returns-in_ok-told-in-While t c = λ items own f round h.
    let text = c.args.text.now in
    let p = program_in text items in
    let test = c.in_ok-told-in-While.told in
    let after = c.tell_test.new.locals in
    let tree = ap statement_tree c.in-While.is ∙ of_while c.in-While.test ∙ ap (λ t. trees.While (test_tree t)) (sym c.deref-in-While.ensures) in
    let come = subst (λ stays. IsResolvedPiece text (map_piece seen.While (test_told p own stays (test_tree c.deref-in-While.result.now) f)) (seen.While (test_model test)) after) (c.here-inside.ensures f (number_is c.last.result f.last (c.last.ensures text f h)))
    (made_told text seen.While _ _ after (c.in_ok-told-in-While.ensures items own f round h)) in
    IfOk-weaker c.while_of.result _ _ (λ s is. told_as p own (staying_model c.args.stays) f tree is come) c.while_of.ensures

pub tell_statement-returns-in-Plain : goal.tell_statement-returns-in-Plain
tell_statement-returns-in-Plain t c = λ items own f round h.
    let text = c.args.text.now in
    let p = program_in text items in
    subst (λ x. IfOk c.tell_alone.result (λ s. IsResolvedPiece text (statement_told p own (staying_model c.args.stays) x f) (statement_model s) c.tell_alone.new.locals)) (sym (ap statement_tree c.in-Plain.is ∙ of_plain c.in-Plain.plain))
    (c.tell_alone.ensures items own f round h)

pub tell_test-returns : goal.tell_test-returns
tell_test-returns t c = λ items own f round h.
    let p = program_in c.args.text.now items in
    test_ends p own (staying_model c.args.stays) f c.args.test.now c.add_reads.new.found c.ways_of.result c.in_ok-body.body c.tell_block.new.locals
    (c.in_ok-add_reads.ensures.all f h ∙ ap (λ l. l ++ reads p.text f.locals (expression_tree c.args.test.now.test)) c.new-reads.ensures.items) c.ways_of.ensures (c.in_ok-body.ensures items own f round h)

pub tell_statement-returns-in_ok-cases-in-Switch : goal.tell_statement-returns-in_ok-cases-in-Switch
tell_statement-returns-in_ok-cases-in-Switch t c = λ items own f round h.
    let text = c.args.text.now in
    let p = program_in text items in
    let switch = c.deref-in-Switch-2.result.now in
    let tree = switch_tree switch in
    let place = (stated.Switch.out-Switch switch).word.place in
    let cases = c.in_ok-cases-in-Switch.cases in
    let after = c.tell_cases.new.locals in
    let all : CaseTrees = trees.MoreCases tree.first (case_sequence tree.others) in
    let inside = c.in_switch-inside.ensures f (number_is c.last-in-Switch.result f.last (c.last-in-Switch.ensures text f h)) in
    let come = subst (λ s. IsResolvedPiece text (cases_told p own (staying_model c.in_switch-inside.result) (trees.MoreCases (switch_tree s).first (case_sequence (switch_tree s).others)) (switch_tree s).close.place f) (seen.case_sequence (map case_model cases.items)) after)
    (c.deref-in-Switch.ensures ∙ sym c.deref-in-Switch-2.ensures) (c.in_ok-cases-in-Switch.ensures items own f round h) in
    told_as p own (staying_model c.args.stays) f (ap statement_tree c.in-Switch.is ∙ of_switch c.in-Switch.switch ∙ ap (λ s. trees.Switch (switch_tree s).word (switch_tree s).first (case_sequence (switch_tree s).others) (switch_tree s).close) (sym c.deref-in-Switch-2.ensures)) (seen_as.of_switch place cases ∙ ap (λ (w : SwitchTree). seen.Switch w.word.place (seen.case_sequence (map case_model cases.items))) (sym (switch_is switch)))
    (made_told text (seen.Switch tree.word.place) (cases_told p own (in_switch (staying_model c.args.stays) f) all tree.close.place f) _ after
    (subst (λ stays. IsResolvedPiece text (cases_told p own stays all tree.close.place f) (seen.case_sequence (map case_model cases.items)) after) inside come))

pub tell_case-returns : goal.tell_case-returns
tell_case-returns t c = λ items own f round h.
    let text = c.args.text.now in
    let p = program_in text items in
    let stays = staying_model c.args.stays in
    let case = c.args.case.now in
    let targets = c.in_ok-targets.targets in
    let told = c.in_ok-statements.statements in
    let brought = c.declare_binds.new.locals in
    let inside = c.tell_statements.new.locals in
    let after = c.leave.new.self in
    let m = awaited_message p f case.endpoint case.message in
    let meant = c.awaited_message-meant.ensures items own f round h in
    let params = c.awaited_params-params.ensures ∙ ap awaited_params meant in
    let sequence = statement_sequence (map statement_tree case.statements.items) in
    let b = bound_in p case f in
    let t = statements_told p own stays sequence b.frame in
    let binds = subst (λ bs. IsResolvedPiece text (binds_told p (awaited_params m) bs f) targets.items brought) c.deref.ensures.value
    (subst (λ ps. IsResolvedPiece text (binds_told p ps c.deref.result.now f) targets.items brought) params (c.in_ok-targets.ensures items own f round h)) in
    let inner = subst (λ xs. IsResolvedPiece text (statements_told p own stays (statement_sequence (map statement_tree xs)) b.frame) (seen.statement_sequence (map statement_model told.items)) inside) c.deref-2.ensures.value
    (c.in_ok-statements.ensures items own b.frame round binds.frame) in
    case_ends p own stays c.args.behind f case c.case_endpoint-endpoint.result c.awaited_as.result targets (made.Block.roll-Block (record { statements = told; forget = c.forget_past-forget.result })) after
    (c.case_endpoint-endpoint.ensures items f h) (c.awaited_as.ensures ∙ ap (awaited_as case.message) meant) binds.is
    (subst (λ (k : BlockModel). IsResolvedPiece text (block_of c.args.behind f t) k after) (sym (block_made told c.forget_past-forget.result))
    (block_ends text c.args.behind f t _ inside after c.len-kept.result c.last-last.result c.last.result c.forget_past-forget.result (kept f t.frame (case_extends p own stays (awaited_params m) case.binds.items sequence f))
    (c.len-kept.ensures text f h) (c.last-last.ensures text f h) (c.last.ensures text t.frame inner.frame) c.forget_past-forget.ensures (c.leave.ensures text) inner))

pub tell_cases-tell_case-requires : goal.tell_cases-tell_case-requires
tell_cases-tell_case-requires t c = let inside = c.loop-next.invariant.inside in (omega (arith, inside, c.decreases), tt)

pub tell_cases-tell_case-requires-2 : goal.tell_cases-tell_case-requires-2
tell_cases-tell_case-requires-2 t c = let inside = c.loop-next.invariant.inside in (omega (arith, inside, c.decreases), tt)

pub tell_cases-loop-next-init : goal.tell_cases-loop-next-init
tell_cases-loop-next-init t c =
    let switch = stated.Switch.out-Switch c.args.switch.now in
    record {
      inside = first_inside c.args.switch.now;
      cases = λ items own f round h.
          let p = program_in c.args.text.now items in
          let rest = case_sequence (map case_tree switch.others.items) in
          subst (λ (l : List made.Case.Case). CasesGo p own (staying_model c.args.stays) switch.close.place f (trees.MoreCases (case_tree switch.first) rest) (map case_model l) (case_tree switch.first) rest c.args.locals.now) (sym {A = List made.Case.Case} c.new-told.ensures.items)
          (cases_start p own (staying_model c.args.stays) switch.close.place f (case_tree switch.first) rest c.args.locals.now h);
    }

pub tell_cases-loop-next-preserved : goal.tell_cases-loop-next-preserved
tell_cases-loop-next-preserved t c =
    let switch = stated.Switch.out-Switch c.args.switch.now in
    let others = switch.others.items in
    let next = c.next-item.result in
    let i = c.loop-next.next-index in
    let value = c.deref-next-items.ensures.value in
    let lt = subst (λ (l : List stated.Case.Case). i < length l) value c.loop-next-test.true in
    let at = subst (λ (l : List stated.Case.Case). next ≡ get_or l i next) value c.next-item.is in
    record {
      inside = other_inside c.args.switch.now i next lt at;
      cases = λ items own f round h.
          let p = program_in c.args.text.now items in
          let all = trees.MoreCases (case_tree switch.first) (case_sequence (map case_tree others)) in
          let after = c.tell_case.new.locals in
          subst (λ l. CasesGo p own (staying_model c.args.stays) switch.close.place f all (map case_model l) (case_tree next) (case_sequence (map case_tree (drop (i + 1) others))) after) (sym {A = List made.Case.Case} c.in_ok-push.ensures.items)
          (cases_more p own (staying_model c.args.stays) switch.close.place f all c.loop-next.told.items (case_tree c.loop-next.case.now) others i next c.loop-next.locals after c.in_ok-tell_case.field-0
          lt at (c.loop-next.invariant.cases items own f round h) (λ g here. c.in_ok-tell_case.ensures items own g round here));
    }

pub tell_cases-returns : goal.tell_cases-returns
tell_cases-returns t c = λ items own f round h.
    let text = c.args.text.now in
    let p = program_in text items in
    let stays = staying_model c.args.stays in
    let switch = stated.Switch.out-Switch c.args.switch.now in
    let others = switch.others.items in
    let i = c.loop-next.next-index in
    let all = trees.MoreCases (case_tree switch.first) (case_sequence (map case_tree others)) in
    let after = c.tell_case-2.new.locals in
    subst (λ (w : ResolvedPiece CasesModel). IsResolvedPiece text w (seen.case_sequence (map case_model c.push-2.new.self.items)) after) (sym (switch_cases p own stays f c.args.switch.now))
    (subst (λ l. IsResolvedPiece text (cases_told p own stays all switch.close.place f) (seen.case_sequence (map case_model l)) after) (sym {A = List made.Case.Case} c.in_ok-push-2.ensures.items)
    (cases_end p own stays switch.close.place f all c.loop-next.told.items (case_tree c.loop-next.case.now) others i c.loop-next.locals after c.in_ok-last.last
    (subst (λ (l : List stated.Case.Case). length l ≤ i) c.deref-next-items.ensures.value c.loop-next-test.false)
    (c.loop-next.invariant.cases items own f round h) (λ g here. c.in_ok-last.ensures items own g round here)))
