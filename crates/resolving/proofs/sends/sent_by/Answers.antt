use Rattle.std.proofs.Common.{ap, ◌∙◌}
use Rattle.std.specs.Prelude.{option_and_then, option_map}
use Rattle.resolving.specs.Around.{meant_model, program_in}
use Rattle.resolving.specs.Messages.{message_sent}
use Rattle.resolving.proofs.sends.sent_by.Goals as goal

pub returns-in_err-contract : goal.returns-in_err-contract
returns-in_err-contract c = λ items own f around frame.
    let p = program_in c.args.text.now items in
    ap (option_map meant_model) c.from_residual.ensures
    ∙ ap (option_and_then (λ n. message_sent p n c.args.word)) (c.in_err-contract.ensures items f frame)

pub returns : goal.returns
returns c = λ items own f around frame.
    let p = program_in c.args.text.now items in
    c.message_sent.ensures p around.directory
    ∙ ap (option_and_then (λ n. message_sent p n c.args.word)) (c.in_ok-contract.ensures items f frame)
