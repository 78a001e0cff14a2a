use Rattle.std.proofs.Common.{arith, ◌==◌, not, length, ap, drop, take_all, length-drop}
use Rattle.std.proofs.lemmas.List.Sums.{prefix_len-le-length}
use Rattle.replays.proofs.FrontLemmas.{cut_first, cut_none}
use Rattle.replays.proofs.fronts.first_line.Goals as goal

pub split_at-requires : goal.split_at-requires
split_at-requires c = omega (arith, c.bytes_before.ensures, prefix_len-le-length (λ b. not (b == 10)) c.args.bytes.now)

pub returns-in-empty-clause-none : goal.returns-in-empty-clause-none
returns-in-empty-clause-none c =
    cut_none (λ b. b == 10) c.args.bytes.now (omega (arith, c.bytes_before.ensures, c.in-empty.len_below, ap (λ l. length l) c.split_at.ensures.back, length-drop c.bytes_before.result c.args.bytes.now))

pub returns-in-len1-up-clause-some : goal.returns-in-len1-up-clause-some
returns-in-len1-up-clause-some c =
    cut_first (λ b. b == 10) c.args.bytes.now _ _ _ c.bytes_before.result c.bytes_before.ensures c.split_at.ensures.front c.split_at.ensures.back c.in-len1-up.len_at_least (take_all _ (drop 1 c.split_at.result.1.now) (omega (arith, length-drop 1 c.split_at.result.1.now)))
