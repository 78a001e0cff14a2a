use Rattle.std.proofs.Common.{refl}
use Rattle.source.specs.declared.kind.Kind.TheVariants as kind
use Rattle.syntax.specs.Reading.{never}
use Rattle.syntax.proofs.pieces.Exits.{exits}
use Rattle.syntax.proofs.pieces.Pieces.{fails_here, fails_after, fails_first, fails_second, via_fails}
use Rattle.syntax.proofs.pieces.CursorLemmas.{fixed_piece}
use Rattle.tree.specs.Values.{value_tree}
use Rattle.syntax.specs.StatementParts.{assigned}
use Rattle.syntax.proofs.PlainRules.{value_follows, value_end, assigned_to, assigned_from}
use Rattle.syntax.proofs.ValueFails.{value_piece}
use Rattle.syntax.proofs.statement_ends.assigned.Goals as goal

pub returns-in_err-expect : goal.returns-in_err-expect
returns-in_err-expect c = exits value_tree assigned never (λ _. never) _ _ _ _ _ c.from_residual.ensures.1 c.in_err-expect.ensures
    (λ h. via_fails assigned_to assigned_from (λ _. refl) (fails_here h value_end))

pub returns-in_err-value : goal.returns-in_err-value
returns-in_err-value c = exits value_tree assigned never (λ _. never) _ _ _ _ _ c.from_residual-in_err-value.ensures.1 c.in_err-value.ensures
    (λ h. via_fails assigned_to assigned_from (λ _. refl) (fails_after tt (fixed_piece kind.Equal) c.in_ok-expect.ensures (fails_first h (fixed_piece kind.Semicolon) value_follows)))

pub returns-in_err-expect-2 : goal.returns-in_err-expect-2
returns-in_err-expect-2 c = exits value_tree assigned never (λ _. never) _ _ _ _ _ c.from_residual-in_err-expect-2.ensures.1 c.in_err-expect-2.ensures
    (λ h. via_fails assigned_to assigned_from (λ _. refl) (fails_after tt (fixed_piece kind.Equal) c.in_ok-expect.ensures (fails_second (value_tree c.in_ok-value.value) value_piece c.in_ok-value.ensures value_follows h)))
