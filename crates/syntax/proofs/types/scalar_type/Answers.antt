use Rattle.std.proofs.Common.{refl}
use Rattle.source.specs.declared.kind.Kind.TheVariants as kind
use Rattle.tree.specs.Symbols.{is_kind}
use Rattle.syntax.specs.Types.{scalar_type, scalar_at}
use Rattle.syntax.proofs.pieces.Exits.{exits}
use Rattle.syntax.proofs.pieces.Pieces.{fails_here, fails_after, via_fails}
use Rattle.syntax.proofs.pieces.Words.{words_piece}
use Rattle.syntax.proofs.definitions.TypeRules.{scalars, scalar_to, scalar_from, maybe_array_piece}
use Rattle.syntax.proofs.types.scalar_type.Goals as goal

pub returns-in_err-scalar : goal.returns-in_err-scalar
returns-in_err-scalar c = exits (λ x. x) scalar_type (is_kind kind.OpenBracket) scalar_at _ _ _ _ _ c.from_residual.ensures.1 c.in_err-scalar.ensures
    (λ h. via_fails scalar_to scalar_from (λ _. refl) (fails_here h maybe_array_piece))

pub returns-in_err-array : goal.returns-in_err-array
returns-in_err-array c = exits (λ x. x) scalar_type (is_kind kind.OpenBracket) scalar_at _ _ _ _ _ c.from_residual-in_err-array.ensures.1 c.in_err-array.ensures
    (λ h. via_fails scalar_to scalar_from (λ _. refl) (fails_after c.in_ok-scalar.scalar (words_piece scalars) c.in_ok-scalar.ensures h))
