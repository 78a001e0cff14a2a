use Rattle.std.proofs.Common.{◌≡◌, ◌≤◌, ◌+◌, ◌-◌, length, drop}
use Rattle.std.specs.List.{prefix_len}
use Rattle.std.specs.Char.{is_ascii_digit}
use Rattle.replays.proofs.fronts.digits_at.Given as goal

-- all bytes so far are digits
abbrev pub invariant-digits : goal.invariant-digits
invariant-digits l = record { within : l.n ≤ length l.bytes; so_far : prefix_len is_ascii_digit l.bytes ≡ l.n + prefix_len is_ascii_digit (drop l.n l.bytes) }

abbrev pub decreases-digits : goal.decreases-digits
decreases-digits l = length l.bytes - l.n
