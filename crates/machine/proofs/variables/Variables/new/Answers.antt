use Rattle.std.proofs.Common.{refl}
use Rattle.machine.proofs.BindingLemmas.{variables_none}
use Rattle.machine.proofs.variables.Variables.new.Goals as goal

pub returns-clause-none : goal.returns-clause-none
returns-clause-none c = variables_none _ 0 refl
