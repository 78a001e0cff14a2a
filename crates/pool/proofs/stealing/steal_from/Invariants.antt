use Rattle.pool.specs.Counts.{Does, taken_by}
use Rattle.pool.specs.Rounds.{AreRound}
use Rattle.pool.proofs.stealing.steal_from.Given as goal

abbrev pub invariant-loop : goal.invariant-loop
invariant-loop g l = record {
  round : AreRound (g.J.Job.takes l.common.job.now) l.common.thieves.now l.passes.items;
  seat : g.J.Job.seats l.common.job.now l.bench.seat;
  does : Does (g.J.Job.gives l.common.job.now) (λ n. taken_by n l.fn.passes.items) (λ n. taken_by n l.passes.items) l.fn.bench l.bench;
}
