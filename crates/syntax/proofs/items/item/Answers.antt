use Rattle.std.proofs.Common.{refl}
use Rattle.syntax.specs.Reading.{never}
use Rattle.tree.specs.Trees.{item_tree}
use Rattle.tree.specs.Programs.{item}
use Rattle.syntax.proofs.pieces.Exits.{exits}
use Rattle.syntax.proofs.pieces.Pieces.{fails_second, via_fails}
use Rattle.syntax.proofs.definitions.AccessRules.{access_piece}
use Rattle.syntax.proofs.definitions.ItemRules.{access_follows, item_to, item_from}
use Rattle.syntax.proofs.items.item.Goals as goal

pub returns-in_err-definition : goal.returns-in_err-definition
returns-in_err-definition c = exits item_tree item never (λ _. never) _ _ _ _ _ c.from_residual.ensures.1 c.in_err-definition.ensures
    (λ h. via_fails item_to item_from (λ _. refl) (fails_second c.access-access.result access_piece c.access-access.ensures access_follows h))
