use Rattle.acceptance_methods.proofs.fields.nothing_is_found.Goals as goal

pub verdict_of-requires-clause-worker : goal.verdict_of-requires-clause-worker
verdict_of-requires-clause-worker g c = c.new-worker.ensures.worker c.in-Ok.rows c.in-Ok.ensures.seat
