use Rattle.source.specs.declared.kind.Kind.TheVariants as kind
use Rattle.tree.specs.Symbols.{is_kind}
use Rattle.tree.specs.Spelling.{when}
use Rattle.syntax.specs.Reading.{when_at}
use Rattle.tree.specs.Grammar.{in_heap_words}
use Rattle.syntax.specs.Types.{endpoint_on}
use Rattle.syntax.proofs.pieces.Exits.{exits}
use Rattle.syntax.proofs.pieces.Options.{when_fails}
use Rattle.syntax.proofs.pieces.KindLemmas.{kind_leads}
use Rattle.syntax.proofs.definitions.TypeRules.{in_heap_piece, in_heap_starts}
use Rattle.syntax.proofs.definitions.EndpointRules.{heap_splits}
use Rattle.syntax.proofs.types.maybe_in_heap.Goals as goal

pub returns-in_err-in_heap : goal.returns-in_err-in_heap
returns-in_err-in_heap c = exits (λ x. x) (when in_heap_words) endpoint_on (when_at (is_kind kind.In)) _ _ _ _ _ c.from_residual.ensures.1 c.in_err-in_heap.ensures
    (λ h. when_fails in_heap_words in_heap_piece in_heap_starts heap_splits (kind_leads kind.In _ (c.is_next.ensures.is.0 c.if-is_next.true)) h)
