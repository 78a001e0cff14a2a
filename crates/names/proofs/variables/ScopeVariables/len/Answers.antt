use Rattle.std.proofs.Common.{length, ap, ◌∙◌}
use Rattle.std.proofs.lemmas.List.{length-map}
use Rattle.names.proofs.variables.ScopeVariables.len.Goals as goal

pub returns : goal.returns
returns c = λ text f h. c.len.ensures ∙ ap length h.names ∙ length-map f.variables _
