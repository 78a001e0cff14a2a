use Rattle.std.proofs.Common.{◌≡◌, ℕ, ◌<◌, ◌≤◌, length, slice_index_or}
use Rattle.pool.specs.Counts.{DequeOwner, Ticket}
use Rattle.pool.specs.Owners.{CutOff}
use Rattle.pool.proofs.cutting.cut_round.Given as goal

abbrev pub invariant-loop-index : goal.invariant-loop-index
invariant-loop-index l = record {
  len : length l.owners.items ≡ length l.fn.owners.items;
  count : length l.passes.items ≡ l.index;
  done : (i : ℕ) (o : DequeOwner) → i < l.index → (p : Ticket) → CutOff (slice_index_or l.fn.owners.items i o) (slice_index_or l.owners.items i o) (slice_index_or l.passes.items i p);
  left : (i : ℕ) (o : DequeOwner) → l.index ≤ i → slice_index_or l.owners.items i o ≡ slice_index_or l.fn.owners.items i o;
}
