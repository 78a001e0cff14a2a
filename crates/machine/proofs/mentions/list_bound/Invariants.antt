use Rattle.std.proofs.Common.{◌≡◌}
use Rattle.machine.specs.Views.{variables_model}
use Rattle.machine.proofs.TakeLemmas.{FirstMayTake}
use Rattle.machine.proofs.mentions.list_bound.Given as goal

abbrev pub invariant-loop-variable : goal.invariant-loop-variable
invariant-loop-variable l = record {
  same : variables_model l.variables ≡ variables_model l.fn.variables;
  takes : FirstMayTake l.variables.count l.variables.bindings.items l.targets l.variable-index;
}
