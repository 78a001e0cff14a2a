use Rattle.source.proofs.NumberLemmas.{value_more}
use Rattle.source.proofs.numbers.capped_value.Goals as goal

pub loop-digit-preserved : goal.loop-digit-preserved
loop-digit-preserved c =
    value_more c.args.digits.now c.loop-digit.digit-index c.loop-digit.value c.saturating_mul.result c.from.result c.saturating_add-value.result c.loop-digit-test.true (c.requires c.loop-digit.digit-index c.loop-digit-test.true) c.loop-digit.invariant c.saturating_mul.ensures c.from.ensures c.saturating_add-value.ensures
