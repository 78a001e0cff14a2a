use Rattle.std.proofs.Common.{refl}
use Rattle.source.specs.declared.kind.Kind.TheVariants as kind
use Rattle.syntax.specs.Reading.{never}
use Rattle.syntax.proofs.pieces.Exits.{exits}
use Rattle.syntax.proofs.pieces.Pieces.{fails_here, fails_after, via_fails, next}
use Rattle.syntax.proofs.pieces.CursorLemmas.{fixed_piece, placed_piece}
use Rattle.tree.specs.Values.{call_tree}
use Rattle.syntax.specs.StatementParts.{start}
use Rattle.syntax.proofs.PlainRules.{start_to, start_from}
use Rattle.syntax.proofs.ValueForms.{call_piece}
use Rattle.syntax.proofs.statement_ends.start.Goals as goal

pub returns-in_err-word : goal.returns-in_err-word
returns-in_err-word c = exits (λ p. (p.0, call_tree p.1)) start never (λ _. never) _ _ _ _ _ c.from_residual.ensures.1 c.in_err-word.ensures
    (λ h. via_fails start_to start_from (λ _. refl) (fails_here h (next call_piece (fixed_piece kind.Semicolon))))

pub returns-in_err-call : goal.returns-in_err-call
returns-in_err-call c = exits (λ p. (p.0, call_tree p.1)) start never (λ _. never) _ _ _ _ _ c.from_residual-in_err-call.ensures.1 c.in_err-call.ensures
    (λ h. via_fails start_to start_from (λ _. refl) (fails_after c.in_ok-word.word (placed_piece kind.Start) c.in_ok-word.ensures (fails_here h (fixed_piece kind.Semicolon))))

pub returns-in_err-expect : goal.returns-in_err-expect
returns-in_err-expect c = exits (λ p. (p.0, call_tree p.1)) start never (λ _. never) _ _ _ _ _ c.from_residual-in_err-expect.ensures.1 c.in_err-expect.ensures
    (λ h. via_fails start_to start_from (λ _. refl) (fails_after c.in_ok-word.word (placed_piece kind.Start) c.in_ok-word.ensures (fails_after (call_tree c.in_ok-call.call) call_piece c.in_ok-call.ensures h)))
