use Rattle.std.proofs.Common.{◌≡◌, [], false, take}
use Rattle.program.specs.Lists.{is_among}
use Rattle.machine.specs.Answers.{claimed_in}
use Rattle.machine.specs.Views.{frame_model}
use Rattle.machine.proofs.giving.is_claimed.Given as goal

abbrev pub invariant-loop-argument : goal.invariant-loop-argument
invariant-loop-argument l = is_among (claimed_in (frame_model l.frame).variables [] (take l.argument-index l.arguments)) l.a ≡ false
