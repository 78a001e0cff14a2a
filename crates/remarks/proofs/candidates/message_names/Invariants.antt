use Rattle.std.proofs.Common.{◌≡◌, map, take}
use Rattle.remarks.proofs.candidates.message_names.Given as goal

abbrev pub invariant-loop-message : goal.invariant-loop-message
invariant-loop-message l = l.names.items ≡ map (λ m. m.name) (take l.message-index l.message-items)
