use Rattle.std.proofs.Common.{refl}
use Rattle.std.proofs.lemmas.Bool.{iff_false}
use Rattle.source.specs.declared.kind.Kind.TheVariants as kind
use Rattle.syntax.proofs.pieces.Exits.{exits}
use Rattle.syntax.proofs.pieces.Pieces.{wide_fails}
use Rattle.syntax.proofs.pieces.Choices.{form_fails}
use Rattle.syntax.proofs.pieces.KindLemmas.{kind_leads, not_leads}
use Rattle.syntax.specs.Types.{type_on}
use Rattle.tree.specs.Programs.{result_type}
use Rattle.syntax.specs.ClassParts.{result_at}
use Rattle.syntax.proofs.definitions.ClassRules.{void_form, type_form}
use Rattle.syntax.proofs.classes.result_type.Goals as goal

pub returns-in_err-expect : goal.returns-in_err-expect
returns-in_err-expect c = exits (λ x. x) result_type type_on result_at _ _ _ _ _ c.from_residual.ensures.1 c.in_err-expect.ensures
    (λ h. form_fails void_form (kind_leads kind.Void _ (c.is_next.ensures.is.0 c.if-is_next.true)) (wide_fails (λ y k. refl) h))

pub returns-in_err-value_type : goal.returns-in_err-value_type
returns-in_err-value_type c = exits (λ x. x) result_type type_on result_at _ _ _ _ _ c.from_residual-in_err-value_type.ensures.1 c.in_err-value_type.ensures
    (λ h. form_fails type_form (not_leads kind.Void _ c.is_next.ensures.some (iff_false c.is_next.ensures.is c.if-is_next.false)) h)
