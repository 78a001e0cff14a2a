use Rattle.std.proofs.lemmas.Bool.{iff_false}
use Rattle.source.specs.declared.kind.Kind.TheVariants as kind
use Rattle.syntax.specs.Reading.{never}
use Rattle.tree.specs.Values.{made_tree, made_spelling}
use Rattle.syntax.proofs.pieces.Exits.{exits}
use Rattle.syntax.proofs.pieces.Choices.{form_fails}
use Rattle.syntax.proofs.pieces.KindLemmas.{kind_leads, not_leads}
use Rattle.syntax.proofs.ValueFails.{struct_form, array_form}
use Rattle.syntax.proofs.values.made.Goals as goal

pub returns-in_err-name : goal.returns-in_err-name
returns-in_err-name c = exits made_tree made_spelling never (λ _. never) _ _ _ _ _ c.from_residual.ensures.1 c.in_err-name.ensures
    (λ h. form_fails struct_form (kind_leads kind.Name _ (c.is_next.ensures.is.0 c.if-is_next.true)) h)

pub returns-in_err-element : goal.returns-in_err-element
returns-in_err-element c = exits made_tree made_spelling never (λ _. never) _ _ _ _ _ c.from_residual-in_err-element.ensures.1 c.in_err-element.ensures
    (λ h. form_fails array_form (not_leads kind.Name _ c.is_next.ensures.some (iff_false c.is_next.ensures.is c.if-is_next.false)) h)
