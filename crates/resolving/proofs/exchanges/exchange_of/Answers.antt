use Rattle.std.proofs.Common.{ap, ◌∙◌}
use Rattle.std.specs.Prelude.{option_and_then, option_map}
use Rattle.resolving.specs.Around.{program_in}
use Rattle.resolving.specs.Locals.{mention}
use Rattle.resolving.specs.Plain.{exchange_by, exchange_of}
use Rattle.resolving.proofs.exchanges.exchange_of.Goals as goal

pub returns-in_err-field : goal.returns-in_err-field
returns-in_err-field c = λ items own f around frame.
    let p = program_in c.args.text.now items in
    c.from_residual.ensures ∙ ap (option_and_then (exchange_by p own f c.args.exchange)) (c.in_err-field.ensures items own f around frame)

pub returns : goal.returns
returns c = λ items own f around frame.
    let p = program_in c.args.text.now items in
    let e = c.args.exchange in
    let made = exchange_of p own f e c.in_ok-field.field in
    ap (option_map (made c.in_ok-holder.holder)) (c.in_ok-given.ensures f frame)
    ∙ ap (option_and_then (λ holder. option_map (made holder) (mention p.text f.locals e.given))) (c.in_ok-holder.ensures f frame)
    ∙ ap (option_and_then (exchange_by p own f e)) (c.in_ok-field.ensures items own f around frame)
