use Rattle.std.proofs.Common.{sym, subst}
use Rattle.std.specs.Prelude.{OnOk}
use Rattle.names.specs.Frames.{IsNameFrame, Turned}
use Rattle.names.specs.Variables.{declared_variable}
use Rattle.names.proofs.binds.declare_in.Goals as goal

pub returns : goal.returns
returns c = λ p f scope frame.
    subst (λ t. OnOk c.declare.result (Turned t c.args.found.now.items c.declare.new.found.items c.declare.new.self (declared_variable t c.args.variable.name c.args.variable.ty c.args.heap f))) scope.text_is
    (c.declare.ensures f (subst (λ t. IsNameFrame t f c.args.variables.now) (sym scope.text_is) frame))
