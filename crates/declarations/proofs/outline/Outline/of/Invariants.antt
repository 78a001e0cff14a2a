use Rattle.std.proofs.Common.{◌≡◌, map, take}
use Rattle.tree.specs.Trees.{message_tree}
use Rattle.declarations.proofs.outline.Outline.of.Given as goal

abbrev pub invariant-loop-message : goal.invariant-loop-message
invariant-loop-message l = map (λ m. message_tree m.now) l.messages.items ≡ map message_tree (take l.message-index l.contract.messages.items)
