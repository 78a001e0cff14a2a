use Rattle.std.proofs.Common.{map, refl}
use Rattle.std.specs.List.{flat_map}
use Rattle.source.specs.declared.kind.Kind.TheVariants as kind
use Rattle.tree.specs.Symbols.{is_kind}
use Rattle.tree.specs.Trees.{path_tree}
use Rattle.tree.specs.Grammar.{line}
use Rattle.syntax.proofs.pieces.Exits.{exits}
use Rattle.syntax.proofs.pieces.Beginnings.{splits_self}
use Rattle.syntax.proofs.pieces.Repeats.{many_fails, ended_leaves}
use Rattle.syntax.proofs.pieces.KindLemmas.{kind_leads}
use Rattle.syntax.proofs.definitions.BodyRules.{line_piece, line_starts}
use Rattle.syntax.proofs.states.line_list.Goals as goal

pub returns-in_err-line : goal.returns-in_err-line
returns-in_err-line c = exits (λ v. map path_tree v.items) (flat_map line) (is_kind kind.Name) (λ _. is_kind kind.Name) _ _ _ _ _ c.from_residual.ensures.1 c.in_err-line.ensures
    (λ h. many_fails line_piece line_starts splits_self ended_leaves (map path_tree c.each.all.items) c.each.invariant
    (kind_leads kind.Name _ (c.each-test.ensures.is.0 refl)) h)
