use Rattle.std.proofs.Common.{map, refl, sym, ap, ◌∙◌}
use Rattle.std.specs.List.{flat_map}
use Rattle.tree.specs.Symbols.{by_kind}
use Rattle.syntax.proofs.pieces.Exits.{exits}
use Rattle.syntax.proofs.pieces.Beginnings.{splits_self}
use Rattle.syntax.proofs.pieces.Repeats.{many_fails, ended_leaves}
use Rattle.syntax.proofs.pieces.KindLemmas.{test_leads}
use Rattle.syntax.specs.Firsts.{opens_method}
use Rattle.tree.specs.Trees.{method_tree}
use Rattle.tree.specs.Programs.{method}
use Rattle.syntax.proofs.definitions.ClassRules.{method_piece, method_starts}
use Rattle.syntax.proofs.classes.method_list.Goals as goal

pub returns-in_err-method : goal.returns-in_err-method
returns-in_err-method c = exits (λ v. map method_tree v.items) (flat_map method) (by_kind opens_method) (λ _. by_kind opens_method) _ _ _ _ _ c.from_residual.ensures.1 c.in_err-method.ensures
    (λ h. many_fails method_piece method_starts splits_self ended_leaves (map method_tree c.each.all.items) c.each.invariant
    (test_leads opens_method _ refl (ap opens_method (sym c.peek.ensures.kind) ∙ sym c.is_method.ensures ∙ c.each-test.true)) h)
