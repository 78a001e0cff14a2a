use Rattle.std.proofs.Common.{◌≡◌, ℕ, ◌+◌, All, vec_len}
use Rattle.std.specs.Global.{Vec}
use Rattle.std.specs.Vec.Iter.{into_iter_len, into_iter_items}
use Rattle.pool.specs.Counts.{Ticket, all_taken}
use Rattle.pool.specs.Owners.{EachChanges, GotParts}
use Rattle.pool.specs.Rounds.{AreOf, all_by}
use Rattle.pool.proofs.absorbing.absorb_all.Given as goal

abbrev pub invariant-loop-passes : goal.invariant-loop-passes
invariant-loop-passes l = record {
  owners : (k : ℕ) × (k + into_iter_len l.rest ≡ vec_len l.fn.rounds) × EachChanges (GotParts k) l.fn.owners.items l.owners.items;
  rest : All (λ (ps : Vec Ticket). AreOf l.fn.owners.items ps.items) (into_iter_items l.rest);
  taken : (n : ℕ) → all_taken n l.owners.items + all_by n (into_iter_items l.rest) ≡ all_taken n l.fn.owners.items + all_by n l.fn.rounds.items;
}

abbrev pub decreases-loop-passes : goal.decreases-loop-passes
decreases-loop-passes l = into_iter_len l.rest
