use Rattle.std.proofs.Common.{◌≡◌, ◌++◌, take}
use Rattle.std.specs.List.{flat_map}
use Rattle.machine.specs.Views.{blocks_model, frame_model}
use Rattle.replays.specs.Naming.{words_of}
use Rattle.replays.specs.Remains.{endpoint_text}
use Rattle.replays.proofs.waits.add_endpoints.Given as goal

-- the endpoints so far
abbrev pub invariant-loop-x : goal.invariant-loop-x
invariant-loop-x l =
    l.answer.items ≡ l.initial.answer.items
    ++ flat_map (endpoint_text (words_of l.at.naming.now) (blocks_model l.blocks) (frame_model l.at.frame.now)) (take l.x-index l.x-items)
