use Rattle.std.proofs.Common.{◌≡◌, ℕ, List, ◌∷◌, drop, take, IfOk}
use Rattle.std.specs.Vec.Iter.{into_iter_len, into_iter_items}
use Rattle.pool.specs.Counts.{DequeOwner}
use Rattle.pool.specs.Stints.{AreGathered, AreWork, IsWork}
use Rattle.pool.proofs.gathering.gather.Given as goal

abbrev pub invariant-loop-shift : goal.invariant-loop-shift
invariant-loop-shift g l = record {
  so_far : (k : ℕ) × (into_iter_items l.rest ≡ drop k l.fn.others.items) × ((one : DequeOwner) (others : List DequeOwner)
      → IfOk l.fn.first (IsWork (g.J.Job.takes l.common.job.now) (g.J.Job.seats l.common.job.now) (g.J.Job.gives l.common.job.now) l.common.thieves.now one)
      → AreWork (g.J.Job.takes l.common.job.now) (g.J.Job.seats l.common.job.now) (g.J.Job.gives l.common.job.now) l.common.thieves.now others l.fn.others.items
      → AreGathered (g.J.Job.takes l.common.job.now) (g.J.Job.seats l.common.job.now) (g.J.Job.gives l.common.job.now) l.common.thieves.now (one ∷ take k others) l.all);
}

abbrev pub decreases-loop-shift : goal.decreases-loop-shift
decreases-loop-shift g l = into_iter_len l.rest
