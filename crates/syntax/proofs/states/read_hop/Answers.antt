use Rattle.std.proofs.Common.{refl}
use Rattle.source.specs.declared.kind.Kind.TheVariants as kind
use Rattle.syntax.specs.Reading.{never}
use Rattle.syntax.specs.States.{hop}
use Rattle.syntax.proofs.pieces.Exits.{exits}
use Rattle.syntax.proofs.pieces.Pieces.{next, fails_here, fails_after, via_fails}
use Rattle.syntax.proofs.pieces.CursorLemmas.{fixed_piece, named_piece}
use Rattle.syntax.proofs.pieces.Words.{marks_piece}
use Rattle.syntax.proofs.definitions.StateRules.{signs, hop_to, hop_from}
use Rattle.syntax.proofs.states.read_hop.Goals as goal

pub returns-in_err-sign : goal.returns-in_err-sign
returns-in_err-sign c = exits (λ x. x) hop never (λ _. never) _ _ _ _ _ c.from_residual.ensures.1 c.in_err-sign.ensures
    (λ h. via_fails hop_to hop_from (λ _. refl) (fails_here h (next (fixed_piece kind.Arrow) named_piece)))

pub returns-in_err-expect : goal.returns-in_err-expect
returns-in_err-expect c = exits (λ x. x) hop never (λ _. never) _ _ _ _ _ c.from_residual-in_err-expect.ensures.1 c.in_err-expect.ensures
    (λ h. via_fails hop_to hop_from (λ _. refl) (fails_after (c.in_ok-sign.sign, c.in_ok-sign.mark) (marks_piece signs) c.in_ok-sign.ensures (fails_here h named_piece)))

pub returns-in_err-target : goal.returns-in_err-target
returns-in_err-target c = exits (λ x. x) hop never (λ _. never) _ _ _ _ _ c.from_residual-in_err-target.ensures.1 c.in_err-target.ensures
    (λ h. via_fails hop_to hop_from (λ _. refl) (fails_after (c.in_ok-sign.sign, c.in_ok-sign.mark) (marks_piece signs) c.in_ok-sign.ensures (fails_after tt (fixed_piece kind.Arrow) c.in_ok-expect.ensures h)))
