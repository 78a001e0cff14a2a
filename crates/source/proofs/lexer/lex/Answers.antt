use Rattle.std.proofs.Common.{◌≤◌, inl, inr, ⊎_elim, ap, ◌∙◌, length, Err, arith}
use Rattle.std.proofs.lemmas.Result.{err_from_is_err_and}
use Rattle.source.specs.Marks.{mark_len}
use Rattle.source.specs.Tokens.{AreTokens}
use Rattle.source.proofs.FaultLemmas.{answered, none_of_tokens, fault_of_body}
use Rattle.source.proofs.OrderLemmas.{tokens_few, tokens_in_order}
use Rattle.source.proofs.SpelledLemmas.{tokens_of_lexed, tokens_spelled}
use Rattle.source.proofs.lexer.lex.Goals as goal
use Rattle.source.proofs.lexer.lex.Goals.{In_ok-list}

tokens_are : (c : In_ok-list) → AreTokens c.args.text.now c.in_ok-list.field-0.list.items
tokens_are c = tokens_of_lexed c.args.text.now c.mark_len-mark.result c.in_ok-list.field-0.list.items c.in_ok-list.field-0.end c.mark_len-mark.ensures.value c.if-text-gt-MAX_TEXT.false c.in_ok-list.ensures.found

pub returns-in_err-list-clause-first : goal.returns-in_err-list-clause-first
returns-in_err-list-clause-first c = λ fault is.
    let text = c.args.text.now in
    let exit = err_from_is_err_and c.from_residual.result c.from_residual.ensures.1 in
    ⊎_elim
    (λ same. inl (exit.1 ∙ ap Err (exit.2 ∙ same)))
    (λ memory. inr (exit.1 ∙ ap Err (exit.2 ∙ memory)))
    (answered text c.in_err-list.field-0.0 fault (λ other. fault_of_body text c.mark_len-mark.result c.in_err-list.field-0.0 c.mark_len-mark.ensures.value c.if-text-gt-MAX_TEXT.false (c.in_err-list.ensures.fault other)) is)

pub returns-clause-spelled : goal.returns-clause-spelled
returns-clause-spelled c = tokens_spelled c.args.text.now c.in_ok-list.field-0.list.items (tokens_are (goal.at.returns-clause-spelled c).In_ok-list)

pub returns-clause-ordered : goal.returns-clause-ordered
returns-clause-ordered c =
    let within : mark_len c.args.text.now ≤ length c.args.text.now = omega (arith, c.mark_len-mark.ensures.value, c.mark_len-mark.ensures.within) in
    tokens_in_order c.args.text.now c.in_ok-list.field-0.list.items within (tokens_are (goal.at.returns-clause-ordered c).In_ok-list)

pub returns-clause-few : goal.returns-clause-few
returns-clause-few c =
    let within : mark_len c.args.text.now ≤ length c.args.text.now = omega (arith, c.mark_len-mark.ensures.value, c.mark_len-mark.ensures.within) in
    tokens_few c.args.text.now c.in_ok-list.field-0.list.items within (tokens_are (goal.at.returns-clause-few c).In_ok-list)

pub returns-clause-first : goal.returns-clause-first
returns-clause-first c = λ fault is. absurd (none_of_tokens c.args.text.now c.in_ok-list.field-0.list.items fault (tokens_are (goal.at.returns-clause-first c).In_ok-list) is)
