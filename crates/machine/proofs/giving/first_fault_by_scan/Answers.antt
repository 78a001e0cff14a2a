use Rattle.std.proofs.Common.{sym, ◌∙◌}
use Rattle.machine.specs.Views.{blocks_model, variables_model}
use Rattle.machine.proofs.GiveLemmas.{given_more}
use Rattle.machine.proofs.giving.first_fault_by_scan.Goals as goal

pub loop-number-preserved : goal.loop-number-preserved
loop-number-preserved c =
    given_more (blocks_model c.args.blocks.now) c.args.process (variables_model c.args.frame.now.variables) c.args.arguments.now c.loop-number.number _ c.loop-number-test.true c.loop-number.invariant
    (sym c.is_unclaimed.ensures ∙ c.if-not-is_unclaimed.false)
