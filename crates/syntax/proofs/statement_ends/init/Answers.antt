use Rattle.std.proofs.Common.{refl}
use Rattle.source.specs.declared.kind.Kind.TheVariants as kind
use Rattle.syntax.proofs.pieces.Exits.{exits}
use Rattle.syntax.proofs.pieces.Pieces.{fails_here, fails_after, via_fails}
use Rattle.syntax.proofs.pieces.CursorLemmas.{fixed_piece}
use Rattle.tree.specs.Values.{value_tree}
use Rattle.syntax.specs.ValueReads.{value_on, value_at}
use Rattle.tree.specs.StatementGrammar.{init}
use Rattle.syntax.proofs.PlainRules.{init_to, init_from}
use Rattle.syntax.proofs.ValueFails.{value_piece}
use Rattle.syntax.proofs.statement_ends.init.Goals as goal

pub returns-in_err-expect : goal.returns-in_err-expect
returns-in_err-expect c = exits value_tree init value_on value_at _ _ _ _ _ c.from_residual.ensures.1 c.in_err-expect.ensures
    (λ h. via_fails init_to init_from (λ _. refl) (fails_here h value_piece))

pub returns-in_err-read_value : goal.returns-in_err-read_value
returns-in_err-read_value c = exits value_tree init value_on value_at _ _ _ _ _ c.from_residual-in_err-read_value.ensures.1 c.in_err-read_value.ensures
    (λ h. via_fails init_to init_from (λ _. refl) (fails_after tt (fixed_piece kind.Equal) c.in_ok-expect.ensures h))
