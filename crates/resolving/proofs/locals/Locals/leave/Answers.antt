use Rattle.std.proofs.Common.{take, refl, ap, ◌∙◌}
use Rattle.std.proofs.lemmas.List.{take-map}
use Rattle.resolving.proofs.locals.Locals.leave.Goals as goal

pub returns : goal.returns
returns c = λ text f h. record {
  names = c.leave.ensures ∙ ap (take c.args.outer) h.names ∙ take-map _ c.args.outer f.locals;
  last = refl;
  variables = h.variables;
}
