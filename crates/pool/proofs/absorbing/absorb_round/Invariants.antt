use Rattle.std.proofs.Common.{◌≡◌, ℕ, ◌+◌, ◌<◌, ◌≤◌, length, drop, slice_index_or}
use Rattle.std.specs.Vec.Iter.{into_iter_len, into_iter_items}
use Rattle.pool.specs.Counts.{DequeOwner, all_taken, taken_by}
use Rattle.pool.specs.Owners.{GotParts}
use Rattle.pool.proofs.absorbing.absorb_round.Given as goal

abbrev pub invariant-loop-pass : goal.invariant-loop-pass
invariant-loop-pass l = record {
  len : length l.owners.items ≡ length l.fn.owners.items;
  index : l.index + into_iter_len l.rest ≡ length l.fn.owners.items;
  rest : into_iter_items l.rest ≡ drop l.index l.fn.passes.items;
  done : (i : ℕ) (o : DequeOwner) → i < l.index → GotParts 1 (slice_index_or l.fn.owners.items i o) (slice_index_or l.owners.items i o);
  left : (i : ℕ) (o : DequeOwner) → l.index ≤ i → slice_index_or l.owners.items i o ≡ slice_index_or l.fn.owners.items i o;
  taken : (n : ℕ) → all_taken n l.owners.items + taken_by n (into_iter_items l.rest) ≡ all_taken n l.fn.owners.items + taken_by n l.fn.passes.items;
}

abbrev pub decreases-loop-pass : goal.decreases-loop-pass
decreases-loop-pass l = into_iter_len l.rest
