use Rattle.std.specs.Vec.Iter.{into_iter_len}
use Rattle.tasks.proofs.all_tasks.give_up_all.Given as goal

abbrev pub decreases-loop-task : goal.decreases-loop-task
decreases-loop-task l = into_iter_len l.tasks
