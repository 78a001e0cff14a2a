use Rattle.machine.specs.Frames.{payloads_claimed}
use Rattle.machine.specs.Views.{blocks_model, frame_model}
use Rattle.machine.proofs.GiveLemmas.{Given}
use Rattle.machine.proofs.payloads.are_unsent.Given as goal

abbrev pub invariant-loop-number : goal.invariant-loop-number
invariant-loop-number l = Given (blocks_model l.blocks) l.process (frame_model l.frame).variables (payloads_claimed l.payloads) l.number
