use Rattle.std.proofs.Common.{take}
use Rattle.rules.specs.Programs.{model_of}
use Rattle.machine.specs.Outcomes.{QueueBounds}
use Rattle.machine.specs.Runs.{AreBounds, RunsTo, start_of}
use Rattle.machine.specs.Views.{world_model}
use Rattle.machine.proofs.replaying.replay.Given as goal

abbrev pub invariant-loop-steps : goal.invariant-loop-steps
invariant-loop-steps l = (bound : QueueBounds) → AreBounds (model_of l.program) bound → RunsTo (model_of l.program) bound (start_of (model_of l.program) l.fn.method.0) (take l.steps l.events) (world_model l.world)
