use Rattle.source.specs.declared.kind.Kind.TheVariants as kind
use Rattle.tree.specs.Symbols.{is_kind}
use Rattle.tree.specs.Spelling.{when}
use Rattle.syntax.specs.Reading.{when_at}
use Rattle.syntax.proofs.pieces.Exits.{exits}
use Rattle.syntax.proofs.pieces.Beginnings.{splits_self}
use Rattle.syntax.proofs.pieces.KindLemmas.{kind_leads}
use Rattle.tree.specs.Programs.{claims_words}
use Rattle.syntax.proofs.pieces.Options.{when_fails}
use Rattle.syntax.proofs.definitions.ClassRules.{claims_piece, claims_starts}
use Rattle.syntax.proofs.classes.maybe_claims.Goals as goal

pub returns-in_err-claims : goal.returns-in_err-claims
returns-in_err-claims c = exits (λ x. x) (when claims_words) (is_kind kind.OpenBracket) (when_at (is_kind kind.OpenBracket)) _ _ _ _ _ c.from_residual.ensures.1 c.in_err-claims.ensures
    (λ h. when_fails claims_words claims_piece claims_starts splits_self (kind_leads kind.OpenBracket _ (c.is_next.ensures.is.0 c.if-is_next.true)) h)
