use Rattle.std.proofs.Common.{◌≡◌, map, take}
use Rattle.tree.specs.Trees.{message_tree}
use Rattle.declarations.proofs.outline.Outline.message_names.Given as goal

abbrev pub invariant-loop-message : goal.invariant-loop-message
invariant-loop-message l = l.names.items ≡ map (λ m. (message_tree m.now).name) (take l.message-index l.message-items)
