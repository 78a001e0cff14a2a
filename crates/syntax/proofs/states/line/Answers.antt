use Rattle.std.proofs.Common.{refl}
use Rattle.source.specs.declared.kind.Kind.TheVariants as kind
use Rattle.syntax.specs.Reading.{never}
use Rattle.tree.specs.Trees.{path_tree}
use Rattle.tree.specs.Grammar.{line}
use Rattle.syntax.proofs.pieces.Exits.{exits}
use Rattle.syntax.proofs.pieces.Pieces.{fails_first, fails_second, via_fails}
use Rattle.syntax.proofs.pieces.CursorLemmas.{fixed_piece}
use Rattle.syntax.proofs.definitions.StateRules.{path_piece}
use Rattle.syntax.proofs.definitions.BodyRules.{line_to, line_from, path_follows}
use Rattle.syntax.proofs.states.line.Goals as goal

pub returns-in_err-path : goal.returns-in_err-path
returns-in_err-path c = exits path_tree line never (λ _. never) _ _ _ _ _ c.from_residual.ensures.1 c.in_err-path.ensures
    (λ h. via_fails line_to line_from (λ _. refl) (fails_first h (fixed_piece kind.Semicolon) path_follows))

pub returns-in_err-expect : goal.returns-in_err-expect
returns-in_err-expect c = exits path_tree line never (λ _. never) _ _ _ _ _ c.from_residual-in_err-expect.ensures.1 c.in_err-expect.ensures
    (λ h. via_fails line_to line_from (λ _. refl) (fails_second (path_tree c.in_ok-path.path) path_piece c.in_ok-path.ensures path_follows h))
