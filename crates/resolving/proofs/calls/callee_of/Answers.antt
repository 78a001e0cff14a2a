use Rattle.std.proofs.Common.{ℕ, ap, sym, ◌∙◌}
use Rattle.resolving.specs.Around.{program_in}
use Rattle.resolving.specs.Callees.{front_callee, method_at}
use Rattle.resolving.proofs.calls.callee_of.Goals as goal

pub returns-in-Some : goal.returns-in-Some
returns-in-Some c = λ items own f h frame.
    c.member_callee.ensures items own f h frame
    ∙ ap (front_callee (program_in c.args.text.now items) own f.locals c.args.call.now.name) (sym c.in-Some.is)

pub returns-in-None : goal.returns-in-None
returns-in-None c = λ items own f h frame.
    let p = program_in c.args.text.now items in
    let name = c.args.call.now.name in
    c.method_at.ensures items own h
    ∙ ap (λ (class : ℕ). method_at p class name) h.class_is
    ∙ ap (front_callee p own f.locals name) (sym c.in-None.is)
