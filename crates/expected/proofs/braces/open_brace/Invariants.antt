use Rattle.std.proofs.Common.{◌≡◌, ◌≤◌, ◌+◌}
use Rattle.expected.proofs.BraceLemmas.{open_at}
use Rattle.expected.proofs.braces.open_brace.Given as goal

abbrev pub invariant-tokens : goal.invariant-tokens
invariant-tokens l =
    (l.left + l.closed ≤ l.count) × (open_at l.tokens.list.items l.count 0 ≡ open_at l.tokens.list.items l.left l.closed)

abbrev pub decreases-tokens : goal.decreases-tokens
decreases-tokens l = l.left
