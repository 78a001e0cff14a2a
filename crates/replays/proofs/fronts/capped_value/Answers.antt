use Rattle.std.proofs.Common.{arith}
use Rattle.std.proofs.lemmas.Str.Parse.{digit_at}
use Rattle.replays.proofs.FrontLemmas.{value_more}
use Rattle.replays.proofs.fronts.capped_value.Goals as goal

pub overflow_sub-digit : goal.overflow_sub-digit
overflow_sub-digit c = omega (arith, digit_at c.args.digits.now c.loop-digit.digit-index c.requires c.loop-digit-test.true)

pub loop-digit-preserved : goal.loop-digit-preserved
loop-digit-preserved c =
    value_more c.args.digits.now c.loop-digit.digit-index c.loop-digit.value c.saturating_mul.result c.from.result c.saturating_add-value.result c.loop-digit-test.true c.requires c.loop-digit.invariant c.saturating_mul.ensures c.from.ensures c.saturating_add-value.ensures
