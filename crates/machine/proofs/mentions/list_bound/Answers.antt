use Rattle.std.proofs.Common.{refl, ◌∙◌}
use Rattle.machine.proofs.TakeLemmas.{all_take, first_more, first_none}
use Rattle.machine.proofs.mentions.list_bound.Goals as goal

pub loop-variable-init : goal.loop-variable-init
loop-variable-init c = record { same = refl; takes = first_none _ _ c.args.targets.now }

pub loop-variable-preserved : goal.loop-variable-preserved
loop-variable-preserved c = record {
  same = c.list.ensures.same ∙ c.loop-variable.invariant.same;
  takes = first_more _ _ _ _ c.args.targets.now c.loop-variable.variable-index _ c.loop-variable-test.true c.list.ensures.still c.in_ok-list.ensures.takes c.loop-variable.invariant.takes;
}

pub returns-clause-takes : goal.returns-clause-takes
returns-clause-takes c = all_take _ _ c.args.targets.now c.loop-variable.variable-index c.loop-variable-test.false c.loop-variable.invariant.takes
