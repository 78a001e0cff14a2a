use Rattle.std.proofs.Common.{map, sym, ap, ◌∙◌, refl}
use Rattle.tree.specs.Symbols.{by_kind}
use Rattle.tree.specs.Trees.{item_tree}
use Rattle.tree.specs.Programs.{program}
use Rattle.syntax.specs.Firsts.{opens_item}
use Rattle.syntax.proofs.pieces.Exits.{exits}
use Rattle.syntax.proofs.pieces.Beginnings.{splits_self}
use Rattle.syntax.proofs.pieces.Repeats.{many_fails, ended_leaves}
use Rattle.syntax.proofs.pieces.KindLemmas.{test_leads}
use Rattle.syntax.proofs.definitions.ItemRules.{item_piece, item_starts}
use Rattle.syntax.proofs.items.items.Goals as goal

pub returns-in_err-item : goal.returns-in_err-item
returns-in_err-item c = exits (λ v. map item_tree v.items) program (by_kind opens_item) (λ _. by_kind opens_item) _ _ _ _ _ c.from_residual.ensures.1 c.in_err-item.ensures
    (λ h. many_fails item_piece item_starts splits_self ended_leaves (map item_tree c.each.all.items) c.each.invariant
    (test_leads opens_item _ refl (ap opens_item (sym c.peek.ensures.kind) ∙ sym c.is_item.ensures ∙ c.each-test.true)) h)
