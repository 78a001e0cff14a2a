use Rattle.std.proofs.Common.{refl}
use Rattle.syntax.specs.Reading.{never}
use Rattle.tree.specs.ExpressionTrees.{expression_tree}
use Rattle.tree.specs.Values.{made_array}
use Rattle.syntax.proofs.pieces.Exits.{exits}
use Rattle.syntax.proofs.pieces.Pieces.{fails_here, fails_after, via_fails}
use Rattle.syntax.proofs.pieces.Words.{words_piece}
use Rattle.syntax.proofs.definitions.TypeRules.{scalars}
use Rattle.syntax.proofs.ExpressionFails.{index_piece}
use Rattle.syntax.proofs.ValueFails.{array_to}
use Rattle.syntax.proofs.values.made_array.Goals as goal

pub returns-in_err-element : goal.returns-in_err-element
returns-in_err-element c = exits (λ p. (p.0, expression_tree p.1)) made_array never (λ _. never) _ _ _ _ _ c.from_residual.ensures.1 c.in_err-element.ensures
    (λ h. via_fails array_to array_to (λ _. refl) (fails_here h index_piece))

pub returns-in_err-length : goal.returns-in_err-length
returns-in_err-length c = exits (λ p. (p.0, expression_tree p.1)) made_array never (λ _. never) _ _ _ _ _ c.from_residual-in_err-length.ensures.1 c.in_err-length.ensures
    (λ h. via_fails array_to array_to (λ _. refl) (fails_after c.in_ok-element.element (words_piece scalars) c.in_ok-element.ensures h))
