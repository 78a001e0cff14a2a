use Rattle.std.proofs.Common.{◌≡◌, ℕ, vec_len}
use Rattle.pool.specs.Counts.{all_put}
use Rattle.pool.specs.Owners.{AreFilled}
use Rattle.pool.proofs.filling.empty_deques.Given as goal

abbrev pub invariant-loop : goal.invariant-loop
invariant-loop g l = record {
  count : vec_len l.owners ≡ l.counter;
  filled : AreFilled (g.J.Job.takes l.job) l.owners.items;
  empty : (n : ℕ) → all_put n l.owners.items ≡ 0;
}
