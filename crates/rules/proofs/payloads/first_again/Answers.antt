use Rattle.std.proofs.Common.{sym, ◌∙◌}
use Rattle.rules.proofs.PayloadLemmas.{taken_first, taken_again, taken_more, taken_all}
use Rattle.rules.proofs.payloads.first_again.Goals as goal

pub loop-number-init : goal.loop-number-init
loop-number-init c = taken_first _ c.args.payloads.now

pub returns-then-is_taken : goal.returns-then-is_taken
returns-then-is_taken c = taken_again _ c.args.payloads.now c.loop-number.number _ c.loop-number-test.true (sym c.is_taken.ensures ∙ c.if-is_taken.true) c.loop-number.invariant

pub loop-number-preserved : goal.loop-number-preserved
loop-number-preserved c = taken_more _ c.args.payloads.now c.loop-number.number _ c.loop-number-test.true (sym c.is_taken.ensures ∙ c.if-is_taken.false) c.loop-number.invariant

pub returns : goal.returns
returns c = taken_all _ c.args.payloads.now c.loop-number.number c.loop-number-test.false c.loop-number.invariant
