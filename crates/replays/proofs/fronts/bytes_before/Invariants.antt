use Rattle.std.proofs.Common.{◌≡◌, ◌≤◌, ◌+◌, ◌-◌, length, drop, ◌==◌}
use Rattle.std.specs.List.{position_or_len}
use Rattle.replays.proofs.fronts.bytes_before.Given as goal

-- no byte so far has the value
abbrev pub invariant-others : goal.invariant-others
invariant-others l = record { within : l.n ≤ length l.bytes; so_far : position_or_len (λ b. b == l.byte) l.bytes ≡ l.n + position_or_len (λ b. b == l.byte) (drop l.n l.bytes) }

abbrev pub decreases-others : goal.decreases-others
decreases-others l = length l.bytes - l.n
