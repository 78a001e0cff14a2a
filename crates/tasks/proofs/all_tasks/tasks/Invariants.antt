use Rattle.std.proofs.Common.{◌≡◌, All, map}
use Rattle.tasks.specs.Tasks.{numbers_below, number_of, task_program}
use Rattle.tasks.proofs.all_tasks.tasks.Given as goal

abbrev pub invariant-loop-number : goal.invariant-loop-number
invariant-loop-number l = record {
  each : map number_of l.tasks.items ≡ numbers_below l.number;
  program : All (λ task. task_program task ≡ l.program) l.tasks.items;
}
