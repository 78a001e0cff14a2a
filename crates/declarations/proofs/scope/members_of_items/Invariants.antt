use Rattle.std.proofs.Common.{map, take}
use Rattle.tree.specs.Trees.{item_tree}
use Rattle.declarations.specs.Scopes.{AllMembers}
use Rattle.declarations.proofs.scope.members_of_items.Given as goal

abbrev pub invariant-loop-item : goal.invariant-loop-item
invariant-loop-item l = AllMembers l.text (map item_tree (take l.item-index l.items)) l.members.items
