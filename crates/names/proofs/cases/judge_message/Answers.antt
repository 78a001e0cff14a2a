use Rattle.std.proofs.Common.{◌≡◌, ◌++◌, [], Some, None, ap, sym, ◌∙◌, subst}
use Rattle.std.specs.Prelude.{OnOk, if◌then◌else◌, is_some, option_map}
use Rattle.tree.specs.Trees.{message_tree}
use Rattle.names.specs.Cases.{awaited_message, message_case_mistakes, twice_mistakes}
use Rattle.names.specs.Operands.{in_frame}
use Rattle.declarations.specs.Mistakes.{Adds}
use Rattle.names.specs.Heads.{case_head}
use Rattle.declarations.specs.declared.value_type.ValueType.TheVariants as ty
use Rattle.names.proofs.HeadWords.{told_twice}
use Rattle.names.proofs.PassLemmas.{on_adds}
use Rattle.names.proofs.cases.judge_message.Goals as goal

pub returns-in_ok-judge_message_case-in-Some : goal.returns-in_ok-judge_message_case-in-Some
returns-in_ok-judge_message_case-in-Some c = λ awaits p f earlier scope twice.
    let s = in_frame p f in
    let h = case_head c.args.case.now in
    let result = c.judge_case_twice.result in
    let old = c.args.found.now.items in
    let mid = c.judge_message_case.new.found.items in
    let new = c.judge_case_twice.new.found.items in
    let word = c.args.word in
    let n = c.args.end.item in
    let k = ty.Endpoint c.args.end.side n in
    let message = message_tree c.in-Some.message.now in
    let named : awaited_message s k h.awaited ≡ Some message = ap (awaited_message s k) awaits ∙ sym (c.message.ensures p scope) ∙ ap (option_map (λ m. message_tree m.now)) c.in-Some.is in
    subst (λ o. OnOk result (Adds old new (message_case_mistakes n o c.args.end.side word h.binds ++ (if is_some o then twice_mistakes s earlier h else [])))) (sym named)
    (on_adds result old mid new (message_case_mistakes n (Some message) c.args.end.side word h.binds) (twice_mistakes s earlier h)
    (subst (λ b. Adds old mid (message_case_mistakes n (Some message) c.args.end.side word b)) c.deref.ensures.value (c.in_ok-judge_message_case-in-Some.ensures n))
    (told_twice result mid new s earlier h c.args.twice twice c.judge_case_twice.ensures))

pub returns-in-None : goal.returns-in-None
returns-in-None c = λ awaits p f earlier scope twice.
    let s = in_frame p f in
    let h = case_head c.args.case.now in
    let result = c.add_unknown.result in
    let old = c.args.found.now.items in
    let new = c.add_unknown.new.found.items in
    let word = c.args.word in
    let n = c.args.end.item in
    let k = ty.Endpoint c.args.end.side n in
    let named : awaited_message s k h.awaited ≡ None = ap (awaited_message s k) awaits ∙ sym (c.message.ensures p scope) ∙ ap (option_map (λ m. message_tree m.now)) c.in-None.is in
    subst (λ o. OnOk result (Adds old new (message_case_mistakes n o c.args.end.side word h.binds ++ (if is_some o then twice_mistakes s earlier h else [])))) (sym named)
    c.add_unknown.ensures
