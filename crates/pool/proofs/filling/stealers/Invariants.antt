use Rattle.std.proofs.Common.{◌≡◌, ◌<◌, ℕ, All, length, slice_index_or}
use Rattle.crossbeam_deque.specs.Handles.{stealer_deque, stealer_flavor, worker_deque}
use Rattle.pool.specs.Counts.{DequeOwner}
use Rattle.pool.specs.Owners.{Thief}
use Rattle.pool.proofs.filling.stealers.Given as goal

abbrev pub invariant-loop-owner : goal.invariant-loop-owner
invariant-loop-owner l = record {
  lengths : length l.thieves.items ≡ l.owner-index;
  each : (d : ℕ) (o : DequeOwner) (t : Thief) → d < l.owner-index → stealer_deque (slice_index_or l.thieves.items d t) ≡ worker_deque (slice_index_or l.owners d o);
  fifo : All (λ (t : Thief). stealer_flavor t ≡ 0) l.thieves.items;
}
