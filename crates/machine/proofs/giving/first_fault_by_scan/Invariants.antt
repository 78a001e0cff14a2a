use Rattle.machine.specs.Views.{blocks_model, frame_model}
use Rattle.machine.proofs.GiveLemmas.{Given}
use Rattle.machine.proofs.giving.first_fault_by_scan.Given as goal

abbrev pub invariant-loop-number : goal.invariant-loop-number
invariant-loop-number l = Given (blocks_model l.blocks) l.process (frame_model l.frame).variables l.arguments l.number
