use Rattle.std.proofs.Common.{length, ◌-◌, ◌≡◌, ◌≤◌, drop, nat_eq}
use Rattle.std.specs.Cmp.Lexicographic.{pointwise}
use Rattle.source.proofs.words.is_written.Given as goal

-- the rests of the two are equal exactly if the two are
abbrev pub invariant-bytes : goal.invariant-bytes
invariant-bytes l = record {
  within : l.at ≤ length l.text;
  same : pointwise nat_eq (drop l.at l.text) (drop l.at l.word) ≡ pointwise nat_eq l.text l.word;
}

abbrev pub decreases-bytes : goal.decreases-bytes
decreases-bytes l = length l.text - l.at
