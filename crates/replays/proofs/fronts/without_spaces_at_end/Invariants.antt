use Rattle.std.proofs.Common.{◌≡◌, ◌≤◌, ◌+◌, ◌==◌, length, take}
use Rattle.std.specs.List.{suffix_len}
use Rattle.replays.proofs.fronts.without_spaces_at_end.Given as goal

-- all bytes from here on are spaces
abbrev pub invariant-trailing : goal.invariant-trailing
invariant-trailing l = record {
  within : l.n ≤ length l.bytes;
  so_far : l.n + suffix_len (λ b. b == 32) l.bytes ≡ length l.bytes + suffix_len (λ b. b == 32) (take l.n l.bytes);
}

abbrev pub decreases-trailing : goal.decreases-trailing
decreases-trailing l = l.n
