use Rattle.std.proofs.Common.{◌≡◌, ◌++◌, map, take}
use Rattle.std.specs.List.{join_with_byte}
use Rattle.machine.specs.Views.{held_model}
use Rattle.replays.specs.Naming.{words_of}
use Rattle.replays.specs.WorldLines.{message_text}
use Rattle.replays.proofs.blocks.add_messages.Given as goal

-- the messages so far
abbrev pub invariant-loop-index : goal.invariant-loop-index
invariant-loop-index l =
    l.answer.items ≡ l.initial.answer.items ++ join_with_byte 32 (map (λ h. message_text (words_of l.naming) l.contract.0 (held_model h)) (take l.index l.queue.items))
