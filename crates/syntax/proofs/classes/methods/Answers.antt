use Rattle.std.proofs.Common.{map}
use Rattle.std.specs.List.{flat_map}
use Rattle.tree.specs.Spelling.{in_braces}
use Rattle.syntax.specs.Reading.{never}
use Rattle.syntax.proofs.pieces.Exits.{exits}
use Rattle.syntax.proofs.pieces.Enclosed.{braced_open_fails, braced_fails, braced_close_fails}
use Rattle.tree.specs.Trees.{method_tree}
use Rattle.tree.specs.Programs.{method}
use Rattle.syntax.proofs.definitions.ClassRules.{methods_inside, method_sequence_piece}
use Rattle.syntax.proofs.classes.methods.Goals as goal

pub returns-in_err-expect : goal.returns-in_err-expect
returns-in_err-expect c = exits (λ p. (map method_tree p.0.items, p.1)) (in_braces (flat_map method)) never (λ _. never) _ _ _ _ _ c.from_residual.ensures.1 c.in_err-expect.ensures
    (λ h. braced_open_fails methods_inside method_sequence_piece h)

pub returns-in_err-all : goal.returns-in_err-all
returns-in_err-all c = exits (λ p. (map method_tree p.0.items, p.1)) (in_braces (flat_map method)) never (λ _. never) _ _ _ _ _ c.from_residual-in_err-all.ensures.1 c.in_err-all.ensures
    (λ h. braced_fails methods_inside c.in_ok-expect.ensures h)

pub returns-in_err-close : goal.returns-in_err-close
returns-in_err-close c = exits (λ p. (map method_tree p.0.items, p.1)) (in_braces (flat_map method)) never (λ _. never) _ _ _ _ _ c.from_residual-in_err-close.ensures.1 c.in_err-close.ensures
    (λ h. braced_close_fails methods_inside (map method_tree c.in_ok-all.all.items) method_sequence_piece c.in_ok-expect.ensures c.in_ok-all.ensures h)
