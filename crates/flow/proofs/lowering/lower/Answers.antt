use Rattle.std.proofs.Common.{rules}
use Rattle.program.specs.Methods.{method_model}
use Rattle.flow.proofs.ClosedLemmas.{closed_as}
use Rattle.flow.proofs.lowering.lower.Goals as goal

pub returns-clause-closed : goal.returns-clause-closed
returns-clause-closed c = closed_as _ (method_model c.args.method.now) (search rules)
