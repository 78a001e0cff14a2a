use Rattle.std.proofs.Common.{◌≡◌, take, map}
use Rattle.contracts.specs.Parts.{message_model}
use Rattle.contracts.proofs.sound.copy_messages.Given as goal

abbrev pub invariant-loop-message : goal.invariant-loop-message
invariant-loop-message l = map message_model l.copies.items ≡ map message_model (take l.message-index l.messages)
