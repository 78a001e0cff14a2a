use Rattle.std.proofs.Common.{◌≡◌, ℕ, ◌<◌, false}
use Rattle.rules.specs.Mentions.{is_kept}
use Rattle.rules.specs.Sites.{method_of, row_of}
use Rattle.rules.proofs.scopes.first_of_all.Given as goal

abbrev pub invariant-loop-number : goal.invariant-loop-number
invariant-loop-number l = (v : ℕ) → v < l.number → is_kept (method_of l.here) (row_of l.here) l.given v ≡ false
