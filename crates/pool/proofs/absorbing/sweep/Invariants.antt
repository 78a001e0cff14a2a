use Rattle.std.proofs.Common.{◌≡◌, ℕ, ◌+◌, All}
use Rattle.std.specs.Vec.Iter.{into_iter_len, into_iter_items}
use Rattle.crossbeam_deque.specs.Handles.{worker_flavor}
use Rattle.pool.specs.Counts.{DequeOwner, all_put, all_taken}
use Rattle.pool.specs.Owners.{owner_parts}
use Rattle.pool.proofs.absorbing.sweep.Given as goal

abbrev pub invariant-loop-owner : goal.invariant-loop-owner
invariant-loop-owner l = record {
  fifo : All (λ (o : DequeOwner). worker_flavor o ≡ 0) (into_iter_items l.rest);
  parts : All (λ (o : DequeOwner). owner_parts o ≡ 1024) (into_iter_items l.rest);
  same : (n : ℕ) → all_put n l.fn.owners.items + all_taken n (into_iter_items l.rest) ≡ all_taken n l.fn.owners.items + all_put n (into_iter_items l.rest);
}

abbrev pub decreases-loop-owner : goal.decreases-loop-owner
decreases-loop-owner l = into_iter_len l.rest
