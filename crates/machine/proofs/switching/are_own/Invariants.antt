use Rattle.machine.specs.Views.{blocks_model, frame_model}
use Rattle.machine.proofs.FrameLemmas.{Own}
use Rattle.machine.proofs.switching.are_own.Given as goal

abbrev pub invariant-loop-endpoint : goal.invariant-loop-endpoint
invariant-loop-endpoint l = Own (blocks_model l.blocks) l.process (frame_model l.frame).variables l.endpoints l.endpoint-index
