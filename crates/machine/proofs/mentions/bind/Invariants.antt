use Rattle.std.proofs.Common.{◌≡◌, drop}
use Rattle.machine.specs.Bindings.{AllMayTake}
use Rattle.machine.specs.Frames.{bound_to}
use Rattle.machine.specs.Views.{variables_model}
use Rattle.machine.proofs.mentions.bind.Given as goal

abbrev pub invariant-loop-number : goal.invariant-loop-number
invariant-loop-number l = record {
  targets : bound_to (variables_model l.variables) (drop l.number l.targets) (drop l.number l.payload) ≡ bound_to (variables_model l.fn.variables) l.targets l.payload;
  takes : AllMayTake l.variables.count l.variables.bindings.items l.targets;
}
