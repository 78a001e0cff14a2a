use Rattle.std.proofs.Common.{◌≡◌, All, rules, subst}
use Rattle.std.proofs.lemmas.List.Elements.{All-head, All-tail}
use Rattle.tasks.specs.Tasks.{task_program}
use Rattle.acceptance.proofs.shelves.verdicts_of.Goals as goal

pub loop-task-init : goal.loop-task-init
loop-task-init c = record {
  worker = c.new-worker.ensures.worker c.in-Ok.rows c.in-Ok.ensures.seat;
  program = search rules;
}

pub add-requires-clause-program : goal.add-requires-clause-program
add-requires-clause-program c =
    All-head (λ task. task_program task ≡ c.args.program.now) _ _ (subst (All (λ task. task_program task ≡ c.args.program.now)) c.in-Some.ensures.items c.loop-task.invariant.program)

pub loop-task-preserved : goal.loop-task-preserved
loop-task-preserved c = record {
  worker = c.add.ensures;
  program = All-tail (λ task. task_program task ≡ c.args.program.now) _ _ (subst (All (λ task. task_program task ≡ c.args.program.now)) c.in-Some.ensures.items c.loop-task.invariant.program);
}
