use Rattle.std.proofs.Common.{map, refl}
use Rattle.source.specs.declared.kind.Kind.TheVariants as kind
use Rattle.tree.specs.Trees.{path_tree}
use Rattle.syntax.specs.States.{one, one_at, state_on}
use Rattle.syntax.proofs.pieces.Exits.{exits}
use Rattle.syntax.proofs.pieces.Pieces.{next, fails_here, fails_after, via_fails}
use Rattle.syntax.proofs.pieces.CursorLemmas.{fixed_piece}
use Rattle.syntax.proofs.definitions.BodyRules.{one_to, one_from, lines_piece, semicolon_piece}
use Rattle.syntax.proofs.states.one.Goals as goal

pub returns-in_err-expect : goal.returns-in_err-expect
returns-in_err-expect c = exits (λ p. ((map path_tree p.0.0.items, p.0.1), p.1)) one state_on one_at _ _ _ _ _ c.from_residual.ensures.1 c.in_err-expect.ensures
    (λ h. via_fails one_to one_from (λ _. refl) (fails_here h (next lines_piece semicolon_piece)))

pub returns-in_err-paths : goal.returns-in_err-paths
returns-in_err-paths c = exits (λ p. ((map path_tree p.0.0.items, p.0.1), p.1)) one state_on one_at _ _ _ _ _ c.from_residual-in_err-paths.ensures.1 c.in_err-paths.ensures
    (λ h. via_fails one_to one_from (λ _. refl) (fails_after tt (fixed_piece kind.One) c.in_ok-expect.ensures (fails_here h semicolon_piece)))
