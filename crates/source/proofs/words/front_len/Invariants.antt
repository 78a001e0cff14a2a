use Rattle.std.proofs.Common.{◌≡◌, ◌-◌, ◌<◌, ◌≤◌, ℕ, true, length, get_or}
use Rattle.source.specs.Classes.{in_word}
use Rattle.source.proofs.words.front_len.Given as goal

-- all bytes so far continue a word
abbrev pub invariant-bytes : goal.invariant-bytes
invariant-bytes l = record { within : l.n ≤ length l.bytes; each : (k : ℕ) → k < l.n → in_word (get_or l.bytes k 0) ≡ true }

abbrev pub decreases-bytes : goal.decreases-bytes
decreases-bytes l = length l.bytes - l.n
