use Rattle.source.specs.declared.kind.Kind.TheVariants as kind
use Rattle.syntax.specs.Reading.{never}
use Rattle.tree.specs.Values.{call_tree, call}
use Rattle.syntax.proofs.pieces.Exits.{exits}
use Rattle.syntax.proofs.pieces.KindLemmas.{kind_leads}
use Rattle.syntax.proofs.ValueForms.{arguments_fail}
use Rattle.syntax.proofs.values.call_from.Goals as goal

pub returns-in_err-open : goal.returns-in_err-open
returns-in_err-open c = exits call_tree call never (λ _. never) _ _ _ _ _ c.from_residual.ensures.1 c.in_err-open.ensures
    (λ h. arguments_fail c.args.callee c.args.member (kind_leads kind.OpenParen _ c.requires) h)
