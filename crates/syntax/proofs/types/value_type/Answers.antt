use Rattle.source.specs.declared.kind.Kind.TheVariants as kind
use Rattle.std.proofs.lemmas.Bool.{iff_false}
use Rattle.std.proofs.Common.{sym, subst}
use Rattle.syntax.specs.Reading.{Stops}
use Rattle.tree.specs.Grammar.{value_type}
use Rattle.syntax.specs.Types.{type_on, type_at}
use Rattle.syntax.proofs.pieces.Exits.{exits}
use Rattle.syntax.proofs.pieces.Pieces.{wide_fails}
use Rattle.syntax.proofs.pieces.Choices.{form_fails, form_reads}
use Rattle.syntax.proofs.pieces.KindLemmas.{kind_leads, not_leads}
use Rattle.syntax.proofs.definitions.TypeForms.{named_form, scalar_form, named_wide, scalar_wide, stops_named}
use Rattle.syntax.proofs.types.value_type.Goals as goal

pub returns-in_err-named_type : goal.returns-in_err-named_type
returns-in_err-named_type c = exits (λ x. x) value_type type_on type_at _ _ _ _ _ c.from_residual.ensures.1 c.in_err-named_type.ensures
    (λ h. form_fails named_form (kind_leads kind.Name _ (c.is_next.ensures.is.0 c.if-is_next.true)) (wide_fails named_wide h))

pub returns-in_err-scalar_type : goal.returns-in_err-scalar_type
returns-in_err-scalar_type c = exits (λ x. x) value_type type_on type_at _ _ _ _ _ c.from_residual-in_err-scalar_type.ensures.1 c.in_err-scalar_type.ensures
    (λ h. form_fails scalar_form (not_leads kind.Name _ c.is_next.ensures.some (iff_false c.is_next.ensures.is c.if-is_next.false)) (wide_fails scalar_wide h))

pub returns-in_ok-named_type : goal.returns-in_ok-named_type
returns-in_ok-named_type c = (
  form_reads named_form c.in_ok-named_type.field-0 _ _ _ c.from.ensures c.in_ok-named_type.ensures.0,
  subst (λ t. Stops (type_at t) c.named_type.new.cursor) (sym c.from.ensures) (stops_named c.in_ok-named_type.field-0 _ c.in_ok-named_type.ensures.1),
)
