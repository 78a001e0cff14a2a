use Rattle.std.proofs.Common.{◌∙◌}
use Rattle.names.proofs.heads.Heads.index_of.Goals as goal

pub returns : goal.returns
returns c = λ text all is. c.copied.ensures ∙ c.get.ensures.value ∙ is.cases c.args.key
