use Rattle.std.proofs.Common.{refl}
use Rattle.syntax.specs.Reading.{never}
use Rattle.syntax.proofs.pieces.Exits.{exits}
use Rattle.syntax.proofs.pieces.Pieces.{fails_here, fails_after, fails_first, fails_second, via_fails}
use Rattle.syntax.proofs.pieces.CursorLemmas.{named_piece}
use Rattle.tree.specs.Values.{call_tree, call}
use Rattle.syntax.proofs.PlainRules.{member_end}
use Rattle.syntax.proofs.ValueForms.{call_to, call_from, maybe_dot_piece, dot_follows}
use Rattle.syntax.proofs.ValueRules.{arguments_piece}
use Rattle.syntax.proofs.statement_ends.call.Goals as goal

pub returns-in_err-name : goal.returns-in_err-name
returns-in_err-name c = exits call_tree call never (λ _. never) _ _ _ _ _ c.from_residual.ensures.1 c.in_err-name.ensures
    (λ h. via_fails call_to call_from (λ _. refl) (fails_here h member_end))

pub returns-in_err-member : goal.returns-in_err-member
returns-in_err-member c = exits call_tree call never (λ _. never) _ _ _ _ _ c.from_residual-in_err-member.ensures.1 c.in_err-member.ensures
    (λ h. via_fails call_to call_from (λ _. refl) (fails_after c.in_ok-name.name named_piece c.in_ok-name.ensures (fails_first h arguments_piece dot_follows)))

pub returns-in_err-open : goal.returns-in_err-open
returns-in_err-open c = exits call_tree call never (λ _. never) _ _ _ _ _ c.from_residual-in_err-open.ensures.1 c.in_err-open.ensures
    (λ h. via_fails call_to call_from (λ _. refl) (fails_after c.in_ok-name.name named_piece c.in_ok-name.ensures (fails_second c.in_ok-member.member maybe_dot_piece c.in_ok-member.ensures dot_follows h)))
