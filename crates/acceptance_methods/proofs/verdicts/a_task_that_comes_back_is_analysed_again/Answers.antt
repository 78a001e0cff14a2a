use Rattle.acceptance_methods.proofs.verdicts.a_task_that_comes_back_is_analysed_again.Goals as goal

pub verdict_of-requires-clause-worker : goal.verdict_of-requires-clause-worker
verdict_of-requires-clause-worker c d = d.new-worker.ensures.worker d.in-Ok.rows d.in-Ok.ensures.seat
