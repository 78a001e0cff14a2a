use Rattle.std.proofs.Common.{sym, ◌∙◌, rules}
use Rattle.program.specs.contracts.types.Side.{the_type}
use denote.Enum.Bare.{same_true}
use Rattle.declarations.proofs.noted.is_same_side.Goals as goal

pub returns : goal.returns
returns c = λ same. same_true the_type (search rules) c.args.left c.args.right (sym c.eq.ensures ∙ same)
