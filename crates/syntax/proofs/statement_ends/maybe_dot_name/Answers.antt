use Rattle.source.specs.declared.kind.Kind.TheVariants as kind
use Rattle.tree.specs.Symbols.{is_kind}
use Rattle.tree.specs.Spelling.{optional}
use Rattle.syntax.specs.Reading.{never, optional_at}
use Rattle.syntax.proofs.pieces.Exits.{exits}
use Rattle.syntax.proofs.pieces.Beginnings.{splits_self}
use Rattle.syntax.proofs.pieces.Options.{opt_fails}
use Rattle.syntax.proofs.pieces.KindLemmas.{kind_leads}
use Rattle.tree.specs.Expressions.{dot_name}
use Rattle.syntax.proofs.AtomRules.{dot_piece}
use Rattle.syntax.proofs.ValueForms.{dot_starts}
use Rattle.syntax.proofs.statement_ends.maybe_dot_name.Goals as goal

pub returns-in_err-dot_name : goal.returns-in_err-dot_name
returns-in_err-dot_name c = exits (λ x. x) (optional dot_name) (is_kind kind.Dot) (optional_at (is_kind kind.Dot) (λ _. never)) _ _ _ _ _ c.from_residual.ensures.1 c.in_err-dot_name.ensures
    (λ h. opt_fails dot_piece dot_starts splits_self (kind_leads kind.Dot _ (c.is_next.ensures.is.0 c.if-is_next.true)) h)
