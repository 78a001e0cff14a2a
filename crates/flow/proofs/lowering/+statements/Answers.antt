use Rattle.std.proofs.Common.{rules, ◌≡◌, length, map, refl, sym, ap, ◌∙◌, subst}
use Rattle.std.proofs.lemmas.Result.{IfOk-weaker}
use Rattle.std.specs.Prelude.{slice_set}
use Rattle.program.specs.Statements.{Switch, statement_model, statement_sequence, case_model, case_sequence}
use Rattle.flow.specs.declared.graph.Instr.TheVariants as instr
use Rattle.flow.specs.Growths.{Grew}
use Rattle.flow.specs.Lowering.{cases, statement, statements}
use Rattle.flow.proofs.BehindLemmas.{behind_goes_on}
use Rattle.flow.proofs.CaseLemmas.{laid_cases, cases_go_on, cases_end, switch_laid, switch_model}
use Rattle.flow.proofs.FormLemmas.{block_laid, loop_laid}
use Rattle.flow.proofs.lowering.+statements.Goals as goal

pub lay_block-returns : goal.lay_block-returns
lay_block-returns t c =
    IfOk-weaker c.lay_statements.result _ _ (λ entry h. block_laid c.args.block.now _ _ _ _ c.args.exits.end c.args.exits.again _ entry c.args.next c.deref.ensures.value c.in_ok-behind.ensures h) c.lay_statements.ensures

pub lay_statements-loop-statement-preserved : goal.lay_statements-loop-statement-preserved
lay_statements-loop-statement-preserved t c =
    behind_goes_on (λ s. s.now) (λ done. statements (statement_sequence (map statement_model done)) c.args.exits.end c.args.exits.again) (λ s. statement (statement_model s) c.args.exits.end c.args.exits.again) _ _ _ c.loop-statement.yielded c.in-Some.statement _ _ _ _ _ _ refl
    c.in-Some.ensures.steps c.loop-statement.invariant c.in_ok-entry.ensures

pub lay_while-returns : goal.lay_while-returns
lay_while-returns t c = λ exit again.
    loop_laid c.args.test.now _ _ _ _ _ _ _ exit again c.in_ok-branch.branch c.in_ok-head.head c.in_ok-body.body c.args.next
    c.deref.ensures.value c.in_ok-branch.ensures.0 c.in_ok-branch.ensures.1 c.in_ok-head.ensures c.in_ok-body.ensures
    (ap (λ b. slice_set c.lay_block.new.instructions.items c.in_ok-branch.branch (instr.Branch c.args.test.now.place b)) c.branches.ensures)

pub lay_statement-returns-in-Switch : goal.lay_statement-returns-in-Switch
lay_statement-returns-in-Switch t c =
    let exits = c.args.exits in
    IfOk-weaker c.lay_switch.result _ _ (λ entry h. subst (λ s. Grew c.args.instructions.now.items c.lay_switch.new.instructions.items entry (statement s exits.end exits.again (length c.args.instructions.now.items) c.args.next))
    (ap (λ l. Switch c.in-Switch.place (case_sequence (map case_model l))) c.deref-in-Switch.ensures.value ∙ sym (ap statement_model c.in-Switch.is ∙ switch_model c.in-Switch.place c.in-Switch.cases)) (h exits.end)) c.lay_switch.ensures

pub lay_switch-loop-case-preserved : goal.lay_switch-loop-case-preserved
lay_switch-loop-case-preserved t c =
    cases_go_on (λ s. s.now) _ _ _ c.loop-case.yielded c.in-Some.case _ _ _ _ _ c.in_ok-entrance_of.field-0 c.args.next c.args.again c.in_ok-entry.entry c.args.next
    c.in-Some.ensures.steps c.loop-case.invariant c.in_ok-entry.ensures c.in_ok-entrance_of.ensures c.in_ok-push.ensures.items

pub lay_switch-returns : goal.lay_switch-returns
lay_switch-returns t c =
    let l = c.loop-case in
    let none : length l.case-iterator.iter.rest.now ≡ 0 = search rules in
    let all = cases_end c.args.cases.now l.case-iterator.iter.rest.now _ c.args.instructions.now.items l.instructions.items _ (laid_cases c.args.next c.args.again (length c.args.instructions.now.items) c.args.next) none l.invariant in
    IfOk-weaker c.lay.result _ _ (λ entry h exit. switch_laid c.args.instructions.now.items l.instructions.items c.lay.new.instructions.items c.args.place
    (λ end. cases (case_sequence (map case_model c.args.cases.now)) end c.args.again) l.entrances.items c.reverse.new.self.items c.in_ok-cases.cases entry c.args.next all c.reverse.ensures.items c.in_ok-cases.ensures h.0 h.1) c.lay.ensures
