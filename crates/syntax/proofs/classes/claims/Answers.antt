use Rattle.std.proofs.Common.{refl}
use Rattle.source.specs.declared.kind.Kind.TheVariants as kind
use Rattle.syntax.specs.Reading.{never}
use Rattle.syntax.proofs.pieces.Exits.{exits}
use Rattle.syntax.proofs.pieces.Pieces.{fails_here, fails_after, via_fails, next}
use Rattle.syntax.proofs.pieces.CursorLemmas.{fixed_piece}
use Rattle.tree.specs.Programs.{claims_words}
use Rattle.syntax.proofs.definitions.ClassRules.{claims_to, claims_from}
use Rattle.syntax.proofs.classes.claims.Goals as goal

pub returns-in_err-expect : goal.returns-in_err-expect
returns-in_err-expect c = exits (λ x. x) (λ _. claims_words) never (λ _. never) _ _ _ _ _ c.from_residual.ensures.1 c.in_err-expect.ensures
    (λ h. via_fails claims_to claims_from (λ _. refl) (fails_here h (next (fixed_piece kind.Claims) (fixed_piece kind.CloseBracket))))

pub returns-in_err-expect-2 : goal.returns-in_err-expect-2
returns-in_err-expect-2 c = exits (λ x. x) (λ _. claims_words) never (λ _. never) _ _ _ _ _ c.from_residual-in_err-expect-2.ensures.1 c.in_err-expect-2.ensures
    (λ h. via_fails claims_to claims_from (λ _. refl) (fails_after tt (fixed_piece kind.OpenBracket) c.in_ok-expect.ensures (fails_here h (fixed_piece kind.CloseBracket))))

pub returns-in_err-expect-3 : goal.returns-in_err-expect-3
returns-in_err-expect-3 c = exits (λ x. x) (λ _. claims_words) never (λ _. never) _ _ _ _ _ c.from_residual-in_err-expect-3.ensures.1 c.in_err-expect-3.ensures
    (λ h. via_fails claims_to claims_from (λ _. refl) (fails_after tt (fixed_piece kind.OpenBracket) c.in_ok-expect.ensures (fails_after tt (fixed_piece kind.Claims) c.in_ok-expect-2.ensures h)))
