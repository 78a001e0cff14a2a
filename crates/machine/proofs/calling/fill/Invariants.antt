use Rattle.machine.specs.Views.{frame_model, variables_model}
use Rattle.machine.proofs.FrameLemmas.{Filled}
use Rattle.machine.proofs.calling.fill.Given as goal

abbrev pub invariant-loop-variable : goal.invariant-loop-variable
invariant-loop-variable l = Filled (frame_model l.frame).variables l.variables l.arguments l.variable-index l.given (variables_model l.has)
