use Rattle.std.proofs.Common.{◌≡◌, map, take}
use Rattle.tree.specs.Trees.{message_tree}
use Rattle.program.specs.Parts.{message_model}
use Rattle.declarations.specs.Resolution.{messages_from}
use Rattle.declarations.proofs.numbering.number_messages.Given as goal

abbrev pub invariant-loop-i : goal.invariant-loop-i
invariant-loop-i l = map message_model l.numbered.items ≡ messages_from l.text l.before (map (λ m. message_tree m.now) (take l.i l.messages))
