use Rattle.std.proofs.Common.{◌≡◌, [], false, take}
use Rattle.program.specs.Lists.{is_among}
use Rattle.machine.specs.Answers.{claimed_in}
use Rattle.machine.specs.Frames.{payloads_claimed}
use Rattle.machine.specs.Views.{frame_model}
use Rattle.machine.proofs.payloads.is_sent.Given as goal

abbrev pub invariant-loop-mention : goal.invariant-loop-mention
invariant-loop-mention l = is_among (claimed_in (frame_model l.frame).variables [] (take l.mention-index (payloads_claimed l.payloads))) l.a ≡ false
