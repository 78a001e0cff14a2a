use Rattle.source.specs.declared.kind.Kind.TheVariants as kind
use Rattle.tree.specs.Symbols.{is_kind}
use Rattle.tree.specs.Spelling.{optional}
use Rattle.syntax.specs.Reading.{never, optional_at}
use Rattle.tree.specs.Grammar.{colon_name}
use Rattle.syntax.proofs.pieces.Exits.{exits}
use Rattle.syntax.proofs.pieces.Beginnings.{splits_self}
use Rattle.syntax.proofs.pieces.Options.{opt_fails}
use Rattle.syntax.proofs.pieces.KindLemmas.{kind_leads}
use Rattle.syntax.proofs.definitions.EndpointRules.{colon_piece, colon_starts}
use Rattle.syntax.proofs.types.maybe_colon_name.Goals as goal

pub returns-in_err-colon_name : goal.returns-in_err-colon_name
returns-in_err-colon_name c = exits (λ x. x) (optional colon_name) (is_kind kind.Colon) (optional_at (is_kind kind.Colon) (λ _. never)) _ _ _ _ _ c.from_residual.ensures.1 c.in_err-colon_name.ensures
    (λ h. opt_fails colon_piece colon_starts splits_self (kind_leads kind.Colon _ (c.is_next.ensures.is.0 c.if-is_next.true)) h)
