use Rattle.std.proofs.Common.{ap, sym, ◌∙◌}
use Rattle.machine.specs.Blocks.{is_own_still}
use Rattle.machine.specs.Views.{blocks_model, variables_model}
use Rattle.machine.proofs.GiveLemmas.{set_more}
use Rattle.machine.proofs.giving.first_fault_by_set.Goals as goal

pub loop-argument-preserved : goal.loop-argument-preserved
loop-argument-preserved c =
    let bs = blocks_model c.args.blocks.now in
    set_more bs c.args.process (variables_model c.args.frame.now.variables) c.args.arguments.now c.loop-argument.argument-index c.loop-argument.taken c.take.new.taken
    _ c.in-Some.a c.loop-argument-test.true c.loop-argument.invariant
    (sym c.has-held.ensures ∙ c.in-Some.ensures.some)
    (λ listed are. ap (is_own_still bs c.args.process listed) (sym c.has-held.ensures) ∙ c.in-Some.ensures.own listed are)
    c.in_ok-take.ensures.taken
