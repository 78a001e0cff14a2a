use Rattle.std.proofs.Common.{refl}
use Rattle.syntax.specs.Reading.{never}
use Rattle.tree.specs.Grammar.{param}
use Rattle.syntax.proofs.pieces.Exits.{exits}
use Rattle.syntax.proofs.pieces.Pieces.{fails_first, fails_second, via_fails}
use Rattle.syntax.proofs.pieces.CursorLemmas.{named_piece}
use Rattle.syntax.proofs.definitions.TypeForms.{param_to, param_from, type_piece, type_follows}
use Rattle.syntax.proofs.messages.param.Goals as goal

pub returns-in_err-ty : goal.returns-in_err-ty
returns-in_err-ty c = exits (λ x. x) param never (λ _. never) _ _ _ _ _ c.from_residual.ensures.1 c.in_err-ty.ensures
    (λ h. via_fails param_to param_from (λ _. refl) (fails_first h named_piece type_follows))

pub returns-in_err-name : goal.returns-in_err-name
returns-in_err-name c = exits (λ x. x) param never (λ _. never) _ _ _ _ _ c.from_residual-in_err-name.ensures.1 c.in_err-name.ensures
    (λ h. via_fails param_to param_from (λ _. refl) (fails_second c.in_ok-ty.ty type_piece c.in_ok-ty.ensures type_follows h))
