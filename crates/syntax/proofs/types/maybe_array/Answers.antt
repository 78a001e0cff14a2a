use Rattle.source.specs.declared.kind.Kind.TheVariants as kind
use Rattle.tree.specs.Symbols.{is_kind}
use Rattle.tree.specs.Spelling.{optional}
use Rattle.syntax.specs.Reading.{never, optional_at}
use Rattle.syntax.specs.Types.{array_tail}
use Rattle.syntax.proofs.pieces.Exits.{exits}
use Rattle.syntax.proofs.pieces.Beginnings.{splits_self}
use Rattle.syntax.proofs.pieces.Options.{opt_fails}
use Rattle.syntax.proofs.pieces.KindLemmas.{kind_leads}
use Rattle.syntax.proofs.definitions.TypeRules.{array_piece, array_starts}
use Rattle.syntax.proofs.types.maybe_array.Goals as goal

pub returns-in_err-array_tail : goal.returns-in_err-array_tail
returns-in_err-array_tail c = exits (λ x. x) (optional array_tail) (is_kind kind.OpenBracket) (optional_at (is_kind kind.OpenBracket) (λ _. never)) _ _ _ _ _ c.from_residual.ensures.1 c.in_err-array_tail.ensures
    (λ h. opt_fails array_piece array_starts splits_self (kind_leads kind.OpenBracket _ (c.is_next.ensures.is.0 c.if-is_next.true)) h)
