use Rattle.std.proofs.Common.{◌≡◌, drop}
use Rattle.declarations.specs.Owning.{any_lent}
use Rattle.declarations.proofs.starts.any_lent.Given as goal

abbrev pub invariant-loop-parameter : goal.invariant-loop-parameter
invariant-loop-parameter l = any_lent l.parameters ≡ any_lent (drop l.parameter-index l.parameters)
