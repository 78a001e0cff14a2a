use Rattle.std.proofs.Common.{arith}
use Rattle.machine.proofs.BindingLemmas.{length_variables}
use Rattle.machine.proofs.calling.fill.Goals as goal

pub push-requires : goal.push-requires
push-requires c =
    record { fits = omega (arith, length_variables c.loop-variable.has.count c.loop-variable.has.bindings.items) }

pub push-requires-else-is_parameter : goal.push-requires-else-is_parameter
push-requires-else-is_parameter c =
    record { fits = omega (arith, length_variables c.loop-variable.has.count c.loop-variable.has.bindings.items) }
