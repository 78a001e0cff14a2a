use Rattle.std.proofs.Common.{◌≡◌, ℕ, ◌+◌, ◌<◌, All, drop, vec_len, slice_index_or}
use Rattle.std.specs.Vec.Iter.{into_iter_len, into_iter_items}
use Rattle.pool.specs.Stints.{IsStint, owner_of}
use Rattle.pool.proofs.threads.start_all.Given as goal

abbrev pub invariant-loop-stint : goal.invariant-loop-stint
invariant-loop-stint g l = record {
  count : vec_len l.started + into_iter_len l.rest ≡ vec_len l.fn.stints;
  left : into_iter_items l.rest ≡ drop (vec_len l.started) l.fn.stints.items;
  rest : All (IsStint (g.J.Job.takes l.common.job.now) (g.J.Job.seats l.common.job.now) l.common.thieves.now) (into_iter_items l.rest);
  each : (k : ℕ) (d : _) (s : _) → k < vec_len l.started → ((slice_index_or l.started.items k d).promise.common.now ≡ l.common)
      × ((slice_index_or l.started.items k d).promise.begun.value ≡ owner_of (slice_index_or l.fn.stints.items k s));
}

abbrev pub decreases-loop-stint : goal.decreases-loop-stint
decreases-loop-stint g l = into_iter_len l.rest
