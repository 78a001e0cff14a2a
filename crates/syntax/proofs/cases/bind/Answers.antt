use Rattle.std.proofs.Common.{refl}
use Rattle.std.proofs.lemmas.Bool.{iff_false}
use Rattle.source.specs.declared.kind.Kind.TheVariants as kind
use Rattle.syntax.proofs.pieces.Exits.{exits}
use Rattle.syntax.proofs.pieces.Pieces.{fails_here, fails_after, fails_first, fails_second, wide_fails}
use Rattle.syntax.proofs.pieces.Choices.{form_fails}
use Rattle.syntax.proofs.pieces.KindLemmas.{kind_leads, not_leads}
use Rattle.syntax.proofs.pieces.CursorLemmas.{named_piece}
use Rattle.tree.specs.StatementGrammar.{bind}
use Rattle.syntax.specs.StatementParts.{bind_on, bind_at}
use Rattle.syntax.proofs.definitions.TypeRules.{scalar_type_piece}
use Rattle.syntax.proofs.CaseRules.{maybe_typed_piece, scalar_follows, named_bind_form, scalar_bind_form}
use Rattle.syntax.proofs.cases.bind.Goals as goal

pub returns-in_err-first : goal.returns-in_err-first
returns-in_err-first c = exits (λ x. x) bind bind_on bind_at _ _ _ _ _ c.from_residual.ensures.1 c.in_err-first.ensures
    (λ h. form_fails named_bind_form (kind_leads kind.Name _ (c.is_next.ensures.is.0 c.if-is_next.true)) (fails_here h maybe_typed_piece))

pub returns-in_err-behind : goal.returns-in_err-behind
returns-in_err-behind c = exits (λ x. x) bind bind_on bind_at _ _ _ _ _ c.from_residual-in_err-behind.ensures.1 c.in_err-behind.ensures
    (λ h. form_fails named_bind_form (kind_leads kind.Name _ (c.is_next.ensures.is.0 c.if-is_next.true)) (fails_after c.in_ok-first.first named_piece c.in_ok-first.ensures h))

pub returns-in_err-scalar_type : goal.returns-in_err-scalar_type
returns-in_err-scalar_type c = exits (λ x. x) bind bind_on bind_at _ _ _ _ _ c.from_residual-in_err-scalar_type.ensures.1 c.in_err-scalar_type.ensures
    (λ h. form_fails scalar_bind_form (not_leads kind.Name _ c.is_next.ensures.some (iff_false c.is_next.ensures.is c.if-is_next.false)) (wide_fails (λ y k. refl) (fails_first h named_piece scalar_follows)))

pub returns-in_err-name : goal.returns-in_err-name
returns-in_err-name c = exits (λ x. x) bind bind_on bind_at _ _ _ _ _ c.from_residual-in_err-name.ensures.1 c.in_err-name.ensures
    (λ h. form_fails scalar_bind_form (not_leads kind.Name _ c.is_next.ensures.some (iff_false c.is_next.ensures.is c.if-is_next.false)) (wide_fails (λ y k. refl) (fails_second c.in_ok-scalar_type.field-0 scalar_type_piece c.in_ok-scalar_type.ensures scalar_follows h)))
