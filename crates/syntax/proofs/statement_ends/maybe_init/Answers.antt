use Rattle.source.specs.declared.kind.Kind.TheVariants as kind
use Rattle.tree.specs.Symbols.{is_kind}
use Rattle.tree.specs.Spelling.{optional}
use Rattle.syntax.specs.Reading.{optional_at}
use Rattle.syntax.proofs.pieces.Exits.{exits}
use Rattle.syntax.proofs.pieces.KindLemmas.{kind_leads}
use Rattle.std.specs.Option.{option_map}
use Rattle.tree.specs.Values.{value_tree}
use Rattle.syntax.specs.ValueReads.{value_at}
use Rattle.tree.specs.StatementGrammar.{init}
use Rattle.syntax.specs.StatementParts.{init_on}
use Rattle.syntax.proofs.pieces.Options.{open_opt_fails}
use Rattle.syntax.proofs.PlainRules.{init_piece, init_starts, init_opens}
use Rattle.syntax.proofs.statement_ends.maybe_init.Goals as goal

pub returns-in_err-init : goal.returns-in_err-init
returns-in_err-init c = exits (option_map value_tree) (optional init) init_on (optional_at (is_kind kind.Equal) value_at) _ _ _ _ _ c.from_residual.ensures.1 c.in_err-init.ensures
    (λ h. open_opt_fails init_piece init_starts init_opens (kind_leads kind.Equal _ (c.is_next.ensures.is.0 c.if-is_next.true)) h)
