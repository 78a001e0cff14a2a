use Rattle.std.proofs.lemmas.Bool.{iff_false}
use Rattle.source.specs.declared.kind.Kind.TheVariants as kind
use Rattle.syntax.proofs.pieces.Exits.{exits}
use Rattle.syntax.proofs.pieces.Pieces.{fails_here, fails_after}
use Rattle.syntax.proofs.pieces.Choices.{form_fails}
use Rattle.syntax.proofs.pieces.KindLemmas.{kind_leads, neither_leads}
use Rattle.tree.specs.ExpressionTrees.{expression_tree}
use Rattle.tree.specs.StatementTrees.{plain_tree}
use Rattle.tree.specs.StatementGrammar.{plain}
use Rattle.syntax.specs.Reading.{never}
use Rattle.syntax.proofs.PlainRules.{assigned_piece}
use Rattle.syntax.proofs.NameRests.{called_form, indexed_form, assigned_form, bare_form}
use Rattle.syntax.proofs.NamedForms.{name_lift}
use Rattle.syntax.proofs.ExpressionFails.{index_piece}
use Rattle.syntax.proofs.plain.after_variable.Goals as goal

pub returns-in_err-open : goal.returns-in_err-open
returns-in_err-open c = exits plain_tree plain never (λ _. never) _ _ _ _ _ c.from_residual.ensures.1 c.in_err-open.ensures
    (λ h. name_lift c.args.first (form_fails bare_form (neither_leads kind.Star kind.Dot _ c.is_next.ensures.some c.requires.star c.requires.dot) (form_fails called_form (kind_leads kind.OpenParen _ (c.is_next.ensures.is.0 c.if-is_next.true)) h)))

pub returns-in_err-read_index : goal.returns-in_err-read_index
returns-in_err-read_index c = exits plain_tree plain never (λ _. never) _ _ _ _ _ c.from_residual-in_err-read_index.ensures.1 c.in_err-read_index.ensures
    (λ h. name_lift c.args.first (form_fails bare_form (neither_leads kind.Star kind.Dot _ c.is_next.ensures.some c.requires.star c.requires.dot) (form_fails indexed_form (kind_leads kind.OpenBracket _ (c.is_next-else-is_next.ensures.is.0 c.if-is_next-2.true)) (fails_here h assigned_piece))))

pub returns-in_err-value : goal.returns-in_err-value
returns-in_err-value c = exits plain_tree plain never (λ _. never) _ _ _ _ _ c.from_residual-in_err-value.ensures.1 c.in_err-value.ensures
    (λ h. name_lift c.args.first (form_fails bare_form (neither_leads kind.Star kind.Dot _ c.is_next.ensures.some c.requires.star c.requires.dot) (form_fails indexed_form (kind_leads kind.OpenBracket _ (c.is_next-else-is_next.ensures.is.0 c.if-is_next-2.true)) (fails_after (expression_tree c.in_ok-read_index.field-0) index_piece c.in_ok-read_index.ensures h))))

pub returns-in_err-value-2 : goal.returns-in_err-value-2
returns-in_err-value-2 c = exits plain_tree plain never (λ _. never) _ _ _ _ _ c.from_residual-in_err-value-2.ensures.1 c.in_err-value-2.ensures
    (λ h. name_lift c.args.first (form_fails bare_form (neither_leads kind.Star kind.Dot _ c.is_next.ensures.some c.requires.star c.requires.dot) (form_fails assigned_form (neither_leads kind.OpenParen kind.OpenBracket _ c.is_next.ensures.some (iff_false c.is_next.ensures.is c.if-is_next.false) (iff_false c.is_next-else-is_next.ensures.is c.if-is_next-2.false)) h)))
