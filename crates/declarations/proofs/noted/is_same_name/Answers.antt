use Rattle.std.proofs.Common.{sym, ◌∙◌}
use Rattle.declarations.proofs.TypeLemmas.{span_same}
use Rattle.declarations.proofs.noted.is_same_name.Goals as goal

pub returns : goal.returns
returns c = λ same. span_same c.args.left c.args.right (sym c.eq.ensures ∙ same)
