use Rattle.std.proofs.Common.{◌≡◌, ◌+◌, ◌<◌, ℕ, All, map, length}
use Rattle.std.specs.Vec.Iter.{into_iter_len, into_iter_items}
use Rattle.tasks.specs.Tasks.{number_of}
use Rattle.pool.specs.Counts.{all_put, times}
use Rattle.pool.specs.Owners.{AreFilled}
use Rattle.pool.proofs.filling.put_all.Given as goal

abbrev pub invariant-loop-task : goal.invariant-loop-task
invariant-loop-task g l = record {
  len : length l.owners.items ≡ length l.fn.owners.items;
  index : l.index < length l.owners.items;
  filled : AreFilled (g.J.Job.takes l.job) l.owners.items;
  tasks : All (g.J.Job.takes l.job) (into_iter_items l.rest);
  put : (n : ℕ) → all_put n l.owners.items + times n (map number_of (into_iter_items l.rest)) ≡ times n (map number_of l.fn.tasks.items);
}

abbrev pub decreases-loop-task : goal.decreases-loop-task
decreases-loop-task g l = into_iter_len l.rest
