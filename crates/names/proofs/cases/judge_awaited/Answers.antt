use Rattle.std.proofs.Common.{sym, subst}
use Rattle.std.specs.Prelude.{OnOk}
use Rattle.names.specs.Cases.{awaited_mistakes, closed_mistakes, twice_mistakes}
use Rattle.names.specs.Operands.{in_frame}
use Rattle.declarations.specs.Mistakes.{Adds}
use Rattle.names.specs.Heads.{case_head}
use Rattle.names.proofs.HeadWords.{told_twice}
use Rattle.names.proofs.PassLemmas.{on_adds}
use Rattle.names.proofs.cases.judge_awaited.Goals as goal

pub returns-in_ok-judge_closed-in-Closed : goal.returns-in_ok-judge_closed-in-Closed
returns-in_ok-judge_closed-in-Closed c = λ p f earlier scope twice.
    let s = in_frame p f in
    let h = case_head c.args.case.now in
    let result = c.judge_case_twice.result in
    let old = c.args.found.now.items in
    let mid = c.judge_closed.new.found.items in
    let new = c.judge_case_twice.new.found.items in
    let word = c.in-Closed.word in
    subst (λ a. OnOk result (Adds old new (awaited_mistakes s earlier c.args.end.side c.args.end.item h a))) (sym c.in-Closed.is)
    (on_adds result old mid new (closed_mistakes h.binds word) (twice_mistakes s earlier h)
    (subst (λ b. Adds old mid (closed_mistakes b word)) c.deref.ensures.value c.in_ok-judge_closed-in-Closed.ensures)
    (told_twice result mid new s earlier h c.args.twice twice c.judge_case_twice.ensures))

pub returns-in-Message : goal.returns-in-Message
returns-in-Message c = λ p f earlier scope twice.
    let s = in_frame p f in
    let h = case_head c.args.case.now in
    let result = c.judge_message.result in
    let old = c.args.found.now.items in
    let new = c.judge_message.new.found.items in
    subst (λ a. OnOk result (Adds old new (awaited_mistakes s earlier c.args.end.side c.args.end.item h a))) (sym c.in-Message.is)
    (c.judge_message.ensures c.in-Message.is p f earlier scope twice)
