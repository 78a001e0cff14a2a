use Rattle.syntax.specs.Reading.{never}
use Rattle.syntax.proofs.pieces.Exits.{exits}
use Rattle.syntax.proofs.pieces.Pieces.{fails_first, fails_second}
use Rattle.syntax.proofs.pieces.CursorLemmas.{named_piece}
use Rattle.syntax.specs.StatementParts.{typed}
use Rattle.syntax.proofs.definitions.TypeForms.{named_tail_piece}
use Rattle.syntax.proofs.CaseRules.{tail_follows}
use Rattle.syntax.proofs.cases.typed.Goals as goal

pub returns-in_err-tail : goal.returns-in_err-tail
returns-in_err-tail c = exits (λ x. x) typed never (λ _. never) _ _ _ _ _ c.from_residual.ensures.1 c.in_err-tail.ensures
    (λ h. fails_first h named_piece tail_follows)

pub returns-in_err-name : goal.returns-in_err-name
returns-in_err-name c = exits (λ x. x) typed never (λ _. never) _ _ _ _ _ c.from_residual-in_err-name.ensures.1 c.in_err-name.ensures
    (λ h. fails_second c.in_ok-tail.tail named_tail_piece c.in_ok-tail.ensures tail_follows h)
