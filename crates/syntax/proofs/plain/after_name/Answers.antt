use Rattle.source.specs.declared.kind.Kind.TheVariants as kind
use Rattle.syntax.proofs.pieces.Exits.{exits}
use Rattle.syntax.proofs.pieces.Pieces.{fails_here, fails_after}
use Rattle.syntax.proofs.pieces.Choices.{form_fails}
use Rattle.syntax.proofs.pieces.KindLemmas.{kind_leads}
use Rattle.tree.specs.StatementTrees.{plain_tree}
use Rattle.tree.specs.StatementGrammar.{plain}
use Rattle.syntax.specs.Reading.{never}
use Rattle.syntax.proofs.definitions.TypeRules.{pointer_piece}
use Rattle.syntax.proofs.PlainRules.{declared_piece}
use Rattle.syntax.proofs.NameRests.{pointed_form}
use Rattle.syntax.proofs.NamedForms.{name_lift}
use Rattle.syntax.proofs.plain.after_name.Goals as goal

pub returns-in_err-bang : goal.returns-in_err-bang
returns-in_err-bang c = exits plain_tree plain never (λ _. never) _ _ _ _ _ c.from_residual.ensures.1 c.in_err-bang.ensures
    (λ h. name_lift c.args.first (form_fails pointed_form (kind_leads kind.Star _ (c.is_next.ensures.is.0 c.if-is_next.true)) (fails_here h declared_piece)))

pub returns-in_err-name : goal.returns-in_err-name
returns-in_err-name c = exits plain_tree plain never (λ _. never) _ _ _ _ _ c.from_residual-in_err-name.ensures.1 c.in_err-name.ensures
    (λ h. name_lift c.args.first (form_fails pointed_form (kind_leads kind.Star _ (c.is_next.ensures.is.0 c.if-is_next.true)) (fails_after c.in_ok-bang.bang pointer_piece c.in_ok-bang.ensures h)))
