use Rattle.std.proofs.Common.{◌≡◌, ◌++◌, drop}
use Rattle.machine.specs.Frames.{addresses, payloads_claimed}
use Rattle.machine.specs.Views.{frame_model}
use Rattle.machine.proofs.payloads.payload_addresses.Given as goal

abbrev pub invariant-loop-mention : goal.invariant-loop-mention
invariant-loop-mention l =
    let at = addresses (frame_model l.frame).variables in
    at (payloads_claimed l.payloads) ≡ l.given.items ++ at (payloads_claimed (drop l.mention-index l.payloads))
