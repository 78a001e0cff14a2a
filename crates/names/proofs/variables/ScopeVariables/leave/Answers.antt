use Rattle.std.proofs.Common.{take, ap, ◌∙◌}
use Rattle.std.proofs.lemmas.List.{take-map}
use Rattle.names.proofs.variables.ScopeVariables.leave.Goals as goal

pub returns : goal.returns
returns c = λ text f h. record {
  names = c.leave.ensures ∙ ap (take c.args.outer) h.names ∙ take-map _ c.args.outer f.variables;
  heap = h.heap;
}
