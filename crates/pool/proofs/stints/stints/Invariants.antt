use Rattle.std.proofs.Common.{◌≡◌, ◌+◌, [], ◌++◌, All, map, vec_len}
use Rattle.std.specs.Global.{Vec}
use Rattle.std.specs.Vec.Iter.{into_iter_len, into_iter_items}
use Rattle.pool.specs.Counts.{DequeOwner, Ticket}
use Rattle.pool.specs.Owners.{IsOwn, owner_taken}
use Rattle.pool.specs.Rounds.{IsFresh}
use Rattle.pool.specs.Stints.{IsStint, owner_of}
use Rattle.pool.proofs.stints.stints.Given as goal

abbrev pub invariant-loop-owner : goal.invariant-loop-owner
invariant-loop-owner g l = record {
  rounds : into_iter_len l.rounds ≡ into_iter_len l.rest;
  seats : into_iter_len l.seats ≡ into_iter_len l.rest;
  count : vec_len l.all + into_iter_len l.rest ≡ vec_len l.fn.owners;
  own : All (λ (o : DequeOwner). IsOwn (g.J.Job.takes l.common.job.now) o) (into_iter_items l.rest);
  fresh : All (λ (o : DequeOwner). owner_taken o ≡ []) (into_iter_items l.rest);
  passes : All (λ (ps : Vec Ticket). IsFresh (g.J.Job.takes l.common.job.now) l.common.thieves.now ps.items) (into_iter_items l.rounds);
  each_seat : All (g.J.Job.seats l.common.job.now) (into_iter_items l.seats);
  each : All (IsStint (g.J.Job.takes l.common.job.now) (g.J.Job.seats l.common.job.now) l.common.thieves.now) l.all.items;
  owners : map owner_of l.all.items ++ into_iter_items l.rest ≡ l.fn.owners.items;
}

abbrev pub decreases-loop-owner : goal.decreases-loop-owner
decreases-loop-owner g l = into_iter_len l.rest
