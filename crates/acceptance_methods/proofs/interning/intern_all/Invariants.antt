use Rattle.intern.specs.Seats.{IsSeatOf}
use Rattle.acceptance_methods.proofs.interning.intern_all.Given as goal

abbrev pub invariant-loop-k : goal.invariant-loop-k
invariant-loop-k l = IsSeatOf l.rows l.seat
