use Rattle.std.proofs.Common.{◌≡◌, ◌-◌, length}
use Rattle.program.specs.Methods.{method_model}
use Rattle.rules.specs.Scopes.{between}
use Rattle.machine.specs.Frames.{out_of_scope}
use Rattle.machine.specs.Views.{variables_model}
use Rattle.machine.proofs.mentions.forgets.Given as goal

abbrev pub invariant-loop : goal.invariant-loop
invariant-loop l =
    out_of_scope (variables_model l.variables) (between (method_model l.method).variables (length (method_model l.method).variables - l.counter) l.outer l.at)
    ≡ out_of_scope (variables_model l.initial.variables) (between (method_model l.method).variables (length (method_model l.method).variables) l.outer l.fn.last)
