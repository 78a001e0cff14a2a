use Rattle.crossbeam_deque.specs.Handles.{worker_view}
use Rattle.pool.specs.Rule.{copies}
use Rattle.pool.specs.Counts.{Does}
use Rattle.pool.specs.Owners.{Took}
use Rattle.pool.proofs.working.run_own.Given as goal

abbrev pub invariant-loop : goal.invariant-loop
invariant-loop g l = record {
  took : Took l.fn.owner l.owner;
  seat : g.J.Job.seats l.common.job.now l.bench.seat;
  does : Does (g.J.Job.gives l.common.job.now) (λ n. copies n (worker_view l.fn.owner).taken) (λ n. copies n (worker_view l.owner).taken) l.fn.bench l.bench;
}
