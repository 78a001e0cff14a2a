use Rattle.std.proofs.Common.{◌≡◌, map, take}
use Rattle.program.specs.Methods.{method_model}
use Rattle.program.specs.Programs.{type_lists}
use Rattle.program.specs.WellFormed.{parameters}
use Rattle.rules.proofs.lowered.parameters_of.Given as goal

abbrev pub invariant-loop-method : goal.invariant-loop-method
invariant-loop-method l = type_lists l.parameters.items ≡ map (λ m. map (λ v. v.ty) (parameters m)) (map method_model (take l.method-index l.methods))
