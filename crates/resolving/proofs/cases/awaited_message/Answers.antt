use Rattle.std.proofs.Common.{sym, ap, ◌∙◌}
use Rattle.std.specs.Prelude.{option_and_then, option_map}
use Rattle.resolving.specs.Around.{meant_model, program_in}
use Rattle.resolving.specs.Messages.{message_named}
use Rattle.resolving.specs.Told.{awaited_message}
use Rattle.resolving.proofs.cases.awaited_message.Goals as goal

pub returns-in_err-contract : goal.returns-in_err-contract
returns-in_err-contract c = λ items own f around frame.
    let p = program_in c.args.text.now items in
    ap (option_map meant_model) c.from_residual.ensures
    ∙ ap (option_and_then (λ n. message_named p n c.in-Message.word)) (c.in_err-contract.ensures items f frame)
    ∙ ap (awaited_message p f c.args.name) (sym c.in-Message.is)

pub returns : goal.returns
returns c = λ items own f around frame.
    let p = program_in c.args.text.now items in
    c.message_named.ensures p around.directory
    ∙ ap (option_and_then (λ n. message_named p n c.in-Message.word)) (c.in_ok-contract.ensures items f frame)
    ∙ ap (awaited_message p f c.args.name) (sym c.in-Message.is)
