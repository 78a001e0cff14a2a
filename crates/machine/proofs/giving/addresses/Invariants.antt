use Rattle.std.proofs.Common.{◌≡◌, ◌++◌, drop}
use Rattle.machine.specs.Frames.{addresses}
use Rattle.machine.specs.Views.{frame_model}
use Rattle.machine.proofs.giving.addresses.Given as goal

abbrev pub invariant-loop-argument : goal.invariant-loop-argument
invariant-loop-argument l = addresses (frame_model l.frame).variables l.arguments ≡ l.given.items ++ addresses (frame_model l.frame).variables (drop l.argument-index l.arguments)
