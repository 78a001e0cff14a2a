use Rattle.std.proofs.Common.{◌≡◌, All}
use Rattle.std.specs.Vec.Iter.{into_iter_items, into_iter_len}
use Rattle.tasks.specs.Tasks.{task_program}
use Rattle.analyse.specs.Workers.{IsWorkerOf}
use Rattle.acceptance.proofs.shelves.verdicts_of.Given as goal

abbrev pub invariant-loop-task : goal.invariant-loop-task
invariant-loop-task l = record {
  worker : IsWorkerOf l.rows l.worker;
  program : All (λ task. task_program task ≡ l.program) (into_iter_items l.left);
}

abbrev pub decreases-loop-task : goal.decreases-loop-task
decreases-loop-task l = into_iter_len l.left
