use Rattle.std.proofs.Common.{map, take}
use Rattle.std.specs.Ordering.{nat_cmp}
use Rattle.program.specs.Parts.{message_model}
use Rattle.contract_traces.specs.Tables.{HasMessage, IsTableOf}
use Rattle.contract_traces.proofs.reasons.messages_of.Given as goal

abbrev pub invariant-loop-message : goal.invariant-loop-message
invariant-loop-message l = IsTableOf nat_cmp (HasMessage (map message_model (take l.message-index l.messages))) l.directions
