use Rattle.std.proofs.Common.{All}
use Rattle.intern.specs.Seats.{IsSeatOf}
use Rattle.analyse.specs.Workers.{IsWorkerOf}
use Rattle.singcheck.proofs.seats.workers_at.Given as goal

abbrev pub invariant-loop : goal.invariant-loop
invariant-loop l = record {
  seat : IsSeatOf l.rows l.left;
  each : All (IsWorkerOf l.rows) l.workers.items;
}
