use Rattle.std.proofs.Common.{refl}
use Rattle.source.specs.declared.kind.Kind.TheVariants as kind
use Rattle.std.proofs.lemmas.Bool.{iff_false}
use Rattle.syntax.specs.Types.{named_tail, endpoint_on, tail_at}
use Rattle.syntax.proofs.pieces.Exits.{exits}
use Rattle.syntax.proofs.pieces.Pieces.{wide_fails}
use Rattle.syntax.proofs.pieces.Choices.{form_fails}
use Rattle.syntax.proofs.pieces.KindLemmas.{kind_leads, not_leads}
use Rattle.syntax.proofs.definitions.TypeForms.{pointer_form, endpoint_form}
use Rattle.syntax.proofs.types.named_tail.Goals as goal

pub returns-in_err-pointer_tail : goal.returns-in_err-pointer_tail
returns-in_err-pointer_tail c = exits (λ x. x) named_tail endpoint_on tail_at _ _ _ _ _ c.from_residual.ensures.1 c.in_err-pointer_tail.ensures
    (λ h. form_fails pointer_form (kind_leads kind.Star _ (c.is_next.ensures.is.0 c.if-is_next.true)) (wide_fails (λ y k. refl) h))

pub returns-in_err-endpoint_tail : goal.returns-in_err-endpoint_tail
returns-in_err-endpoint_tail c = exits (λ x. x) named_tail endpoint_on tail_at _ _ _ _ _ c.from_residual-in_err-endpoint_tail.ensures.1 c.in_err-endpoint_tail.ensures
    (λ h. form_fails endpoint_form (not_leads kind.Star _ c.is_next.ensures.some (iff_false c.is_next.ensures.is c.if-is_next.false)) h)
