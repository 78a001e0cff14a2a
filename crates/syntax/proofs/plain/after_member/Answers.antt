use Rattle.std.proofs.lemmas.Bool.{iff_false}
use Rattle.source.specs.declared.kind.Kind.TheVariants as kind
use Rattle.syntax.proofs.pieces.Exits.{exits}
use Rattle.syntax.proofs.pieces.Choices.{form_fails}
use Rattle.syntax.proofs.pieces.KindLemmas.{kind_leads, not_leads}
use Rattle.tree.specs.StatementTrees.{plain_tree}
use Rattle.tree.specs.StatementGrammar.{plain}
use Rattle.syntax.specs.Reading.{never}
use Rattle.syntax.proofs.NameRests.{passed_form, written_form}
use Rattle.syntax.proofs.NamedForms.{member_lift}
use Rattle.syntax.proofs.plain.after_member.Goals as goal

pub returns-in_err-open : goal.returns-in_err-open
returns-in_err-open c = exits plain_tree plain never (λ _. never) _ _ _ _ _ c.from_residual.ensures.1 c.in_err-open.ensures
    (λ h. member_lift c.args.first c.args.member (form_fails passed_form (kind_leads kind.OpenParen _ (c.is_next.ensures.is.0 c.if-is_next.true)) h))

pub returns-in_err-value : goal.returns-in_err-value
returns-in_err-value c = exits plain_tree plain never (λ _. never) _ _ _ _ _ c.from_residual-in_err-value.ensures.1 c.in_err-value.ensures
    (λ h. member_lift c.args.first c.args.member (form_fails written_form (not_leads kind.OpenParen _ c.is_next.ensures.some (iff_false c.is_next.ensures.is c.if-is_next.false)) h))
