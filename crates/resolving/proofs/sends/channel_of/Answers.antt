use Rattle.std.proofs.Common.{ap, ◌∙◌}
use Rattle.std.specs.Prelude.{option_and_then, option_map}
use Rattle.resolving.specs.Around.{program_in}
use Rattle.resolving.specs.Locals.{mention}
use Rattle.resolving.specs.Plain.{channel_action, ends_of}
use Rattle.resolving.proofs.sends.channel_of.Goals as goal

pub returns-in_err-contract : goal.returns-in_err-contract
returns-in_err-contract c = λ items own f around frame.
    let p = program_in c.args.text.now items in
    c.from_residual.ensures ∙ ap (option_and_then (channel_action p own f c.args.channel)) (c.in_err-contract.ensures p around.directory)

pub returns : goal.returns
returns c = λ items own f around frame.
    let p = program_in c.args.text.now items in
    let n = c.args.channel in
    let made = ends_of p own f n.word.place c.in_ok-contract.contract in
    ap (option_map (made c.in_ok-first.first)) (c.in_ok-second.ensures f frame)
    ∙ ap (option_and_then (λ v. option_map (made v) (mention p.text f.locals n.second))) (c.in_ok-first.ensures f frame)
    ∙ ap (option_and_then (channel_action p own f n)) (c.in_ok-contract.ensures p around.directory)
