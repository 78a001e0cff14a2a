use Rattle.std.proofs.Common.{◌≡◌, ◌-◌, ◌<◌, ◌≤◌, ℕ, true, length, get_or}
use Rattle.std.specs.Char.{is_ascii_digit}
use Rattle.source.proofs.numbers.front_len.Given as goal

-- all bytes so far are digits
abbrev pub invariant-digits : goal.invariant-digits
invariant-digits l = record { within : l.n ≤ length l.bytes; each : (k : ℕ) → k < l.n → is_ascii_digit (get_or l.bytes k 0) ≡ true }

abbrev pub decreases-digits : goal.decreases-digits
decreases-digits l = length l.bytes - l.n
