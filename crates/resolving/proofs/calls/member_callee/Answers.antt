use Rattle.std.proofs.Common.{◌≡◌, None, Some, false, refl, sym, ◌∙◌}
use Rattle.std.specs.Prelude.{Option, is_some}
use Rattle.source.specs.declared.token.Span.{Span}
use Rattle.declarations.specs.Program.{ProgramText}
use Rattle.resolving.specs.Around.{program_in}
use Rattle.resolving.specs.Callees.{member_callee, method_of}
use Rattle.resolving.specs.Locals.{Local, local_named}
use Rattle.resolving.proofs.calls.member_callee.Goals as goal

-- if no variable has the first name, it is the name of a class
of_class : (p : ProgramText) (class name : Span) (local : Option Local) → is_some local ≡ false → member_callee p local class name ≡ method_of p class name
of_class p class name None none = refl
of_class p class name (Some v) none = cc

pub returns : goal.returns
returns c = λ items own f h frame.
    let text = c.args.text.now in
    let none = sym (c.is_in_scope.ensures f frame) ∙ c.if-is_in_scope.false in
    c.method_of.ensures items own h ∙ sym (of_class (program_in text items) c.args.class c.args.name (local_named text f.locals c.args.class) none)
