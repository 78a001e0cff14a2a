use Rattle.std.proofs.Common.{◌≡◌, ℕ, List, ◌++◌, map, take, string_bytes}
use Rattle.tree.specs.Trees.{message_tree}
use Rattle.declarations.specs.Labels.{in_parentheses, part_of}
use Rattle.declarations.proofs.labels.Labels.of.Given as goal

abbrev pub invariant-loop-message : goal.invariant-loop-message
invariant-loop-message l = (behind : List ℕ) → map (part_of (string_bytes l.names ++ behind)) l.by_message.items
    ≡ map (λ m. in_parentheses l.text (message_tree m.now).name) (take l.message-index l.message-items)
