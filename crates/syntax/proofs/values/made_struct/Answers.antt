use Rattle.std.proofs.Common.{refl, map}
use Rattle.syntax.specs.Reading.{never}
use Rattle.tree.specs.ExpressionTrees.{expression_tree}
use Rattle.tree.specs.Values.{made_struct}
use Rattle.syntax.proofs.pieces.Exits.{exits}
use Rattle.syntax.proofs.pieces.Pieces.{fails_here, fails_after, via_fails}
use Rattle.syntax.proofs.pieces.CursorLemmas.{named_piece}
use Rattle.syntax.proofs.ValueRules.{arguments_piece}
use Rattle.syntax.proofs.ValueFails.{struct_to, struct_from}
use Rattle.syntax.proofs.values.made_struct.Goals as goal

pub returns-in_err-name : goal.returns-in_err-name
returns-in_err-name c = exits (λ p. (p.0, p.1, map expression_tree p.2.items)) made_struct never (λ _. never) _ _ _ _ _ c.from_residual.ensures.1 c.in_err-name.ensures
    (λ h. via_fails struct_to struct_from (λ _. refl) (fails_here h arguments_piece))

pub returns-in_err-open : goal.returns-in_err-open
returns-in_err-open c = exits (λ p. (p.0, p.1, map expression_tree p.2.items)) made_struct never (λ _. never) _ _ _ _ _ c.from_residual-in_err-open.ensures.1 c.in_err-open.ensures
    (λ h. via_fails struct_to struct_from (λ _. refl) (fails_after c.in_ok-name.name named_piece c.in_ok-name.ensures h))
