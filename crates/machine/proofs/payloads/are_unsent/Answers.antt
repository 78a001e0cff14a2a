use Rattle.std.proofs.Common.{sym, ◌∙◌}
use Rattle.machine.specs.Views.{blocks_model, variables_model}
use Rattle.machine.proofs.GiveLemmas.{sent_fails, sent_more}
use Rattle.machine.proofs.payloads.are_unsent.Goals as goal

pub returns-then-not-is_unsent-clause-fault : goal.returns-then-not-is_unsent-clause-fault
returns-then-not-is_unsent-clause-fault c = λ failed.
    sent_fails (blocks_model c.args.blocks.now) c.args.process (variables_model c.args.frame.now.variables) c.args.payloads.now c.loop-number.number _ c.loop-number-test.true c.loop-number.invariant
    (sym c.is_unsent.ensures ∙ c.if-not-is_unsent.true)

pub loop-number-preserved : goal.loop-number-preserved
loop-number-preserved c =
    sent_more (blocks_model c.args.blocks.now) c.args.process (variables_model c.args.frame.now.variables) c.args.payloads.now c.loop-number.number _ c.loop-number-test.true c.loop-number.invariant
    (sym c.is_unsent.ensures ∙ c.if-not-is_unsent.false)
