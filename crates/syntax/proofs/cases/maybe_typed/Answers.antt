use Rattle.std.proofs.Common.{refl, sym, ap, ◌∙◌}
use Rattle.tree.specs.Spelling.{optional}
use Rattle.syntax.specs.Reading.{never, optional_at}
use Rattle.syntax.proofs.pieces.Exits.{exits}
use Rattle.syntax.proofs.pieces.Beginnings.{splits_self}
use Rattle.syntax.proofs.pieces.Options.{opt_fails}
use Rattle.syntax.proofs.pieces.KindLemmas.{test_leads}
use Rattle.syntax.specs.StatementParts.{typed, opens_tail, bind_on}
use Rattle.syntax.proofs.CaseRules.{typed_piece, typed_starts}
use Rattle.syntax.proofs.cases.maybe_typed.Goals as goal

pub returns-in_err-typed : goal.returns-in_err-typed
returns-in_err-typed c = exits (λ x. x) (optional typed) bind_on (optional_at bind_on (λ _. never)) _ _ _ _ _ c.from_residual.ensures.1 c.in_err-typed.ensures
    (λ h. opt_fails typed_piece typed_starts splits_self (test_leads opens_tail c.args.cursor.now refl (ap opens_tail (sym c.peek.ensures.kind) ∙ sym c.is_tail.ensures ∙ c.if-is_tail.true)) h)
