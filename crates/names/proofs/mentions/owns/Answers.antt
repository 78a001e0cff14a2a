use Rattle.std.proofs.Common.{sym, ◌∙◌}
use Rattle.names.proofs.OwnLemmas.{scalar_owns}
use Rattle.names.proofs.mentions.owns.Goals as goal

pub returns-in-Scalar : goal.returns-in-Scalar
returns-in-Scalar c = λ s scope ty. sym (scalar_owns s c.args.held c.args.field _ (sym ty ∙ c.in-Scalar.is))
