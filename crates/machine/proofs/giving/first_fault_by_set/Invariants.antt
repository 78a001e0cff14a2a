use Rattle.machine.specs.Views.{blocks_model, frame_model}
use Rattle.machine.proofs.GiveLemmas.{GivenBySet}
use Rattle.machine.proofs.giving.first_fault_by_set.Given as goal

abbrev pub invariant-loop-argument : goal.invariant-loop-argument
invariant-loop-argument l = GivenBySet (blocks_model l.blocks) l.process (frame_model l.frame).variables l.arguments l.argument-index l.taken
