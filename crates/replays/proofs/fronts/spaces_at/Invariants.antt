use Rattle.std.proofs.Common.{◌≡◌, ◌≤◌, ◌+◌, ◌-◌, length, drop}
use Rattle.std.specs.List.{prefix_len}
use Rattle.replays.specs.Fronts.{is_space}
use Rattle.replays.proofs.fronts.spaces_at.Given as goal

-- all bytes so far are spaces
abbrev pub invariant-spaces : goal.invariant-spaces
invariant-spaces l = record { within : l.n ≤ length l.bytes; so_far : prefix_len is_space l.bytes ≡ l.n + prefix_len is_space (drop l.n l.bytes) }

abbrev pub decreases-spaces : goal.decreases-spaces
decreases-spaces l = length l.bytes - l.n
