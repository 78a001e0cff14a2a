use Rattle.std.proofs.Common.{map}
use Rattle.syntax.specs.Reading.{never}
use Rattle.tree.specs.Trees.{path_tree}
use Rattle.syntax.specs.States.{lines}
use Rattle.syntax.proofs.pieces.Exits.{exits}
use Rattle.syntax.proofs.pieces.Enclosed.{braced_open_fails, braced_fails, braced_close_fails}
use Rattle.syntax.proofs.definitions.BodyRules.{lines_inside, line_sequence_piece}
use Rattle.syntax.proofs.states.lines.Goals as goal

pub returns-in_err-expect : goal.returns-in_err-expect
returns-in_err-expect c = exits (λ p. (map path_tree p.0.items, p.1)) lines never (λ _. never) _ _ _ _ _ c.from_residual.ensures.1 c.in_err-expect.ensures
    (λ h. braced_open_fails lines_inside line_sequence_piece h)

pub returns-in_err-paths : goal.returns-in_err-paths
returns-in_err-paths c = exits (λ p. (map path_tree p.0.items, p.1)) lines never (λ _. never) _ _ _ _ _ c.from_residual-in_err-paths.ensures.1 c.in_err-paths.ensures
    (λ h. braced_fails lines_inside c.in_ok-expect.ensures h)

pub returns-in_err-close : goal.returns-in_err-close
returns-in_err-close c = exits (λ p. (map path_tree p.0.items, p.1)) lines never (λ _. never) _ _ _ _ _ c.from_residual-in_err-close.ensures.1 c.in_err-close.ensures
    (λ h. braced_close_fails lines_inside (map path_tree c.in_ok-paths.paths.items) line_sequence_piece c.in_ok-expect.ensures c.in_ok-paths.ensures h)
