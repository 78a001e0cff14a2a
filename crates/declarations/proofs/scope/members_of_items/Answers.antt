use Rattle.std.proofs.Common.{map, subst}
use Rattle.std.proofs.lemmas.List.{take_all}
use Rattle.tree.specs.Trees.{item_tree}
use Rattle.declarations.specs.Scopes.{AllMembers}
use Rattle.declarations.proofs.ScopeLemmas.{members_more}
use Rattle.declarations.proofs.scope.members_of_items.Goals as goal

pub loop-item-preserved : goal.loop-item-preserved
loop-item-preserved c =
    members_more c.args.text.now c.args.items.now c.loop-item.item-index c.item-item.result c.loop-item.members.items _ c.in_ok-of.field-0
    c.loop-item-test.true c.item-item.is c.loop-item.invariant c.in_ok-of.ensures c.in_ok-push.ensures.items

pub returns : goal.returns
returns c = subst (λ l. AllMembers c.args.text.now (map item_tree l) c.loop-item.members.items) (take_all c.loop-item.item-index c.args.items.now c.loop-item-test.false) c.loop-item.invariant
