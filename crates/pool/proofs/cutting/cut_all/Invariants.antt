use Rattle.std.proofs.Common.{◌≡◌, All, vec_len}
use Rattle.std.specs.Global.{Vec}
use Rattle.pool.specs.Counts.{Ticket}
use Rattle.pool.specs.Owners.{EachChanges, LostParts}
use Rattle.pool.specs.Rounds.{AreNew}
use Rattle.pool.proofs.cutting.cut_all.Given as goal

abbrev pub invariant-loop : goal.invariant-loop
invariant-loop l = record {
  count : vec_len l.rounds ≡ l.counter;
  owners : EachChanges (LostParts (vec_len l.rounds)) l.fn.owners.items l.owners.items;
  rounds : All (λ (ps : Vec Ticket). AreNew l.fn.owners.items ps.items) l.rounds.items;
}
