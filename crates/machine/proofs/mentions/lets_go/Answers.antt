use Rattle.std.proofs.Common.{sym, ◌∙◌}
use Rattle.std.proofs.lemmas.List.{at_drop_all}
use Rattle.machine.specs.World.{let_go}
use Rattle.machine.specs.Views.{variables_model}
use Rattle.machine.proofs.FrameLemmas.{lets_more}
use Rattle.machine.proofs.mentions.lets_go.Goals as goal

pub loop-argument-preserved : goal.loop-argument-preserved
loop-argument-preserved c = record {
  gone = lets_more (variables_model c.loop-argument.variables) _ c.args.arguments.now c.loop-argument.argument-index _ c.loop-argument-test.true c.lets_one_go.ensures.gone
      ∙ c.loop-argument.invariant.gone;
  still = λ u takes. c.lets_one_go.ensures.still u (c.loop-argument.invariant.still u takes);
}

pub returns-clause-gone : goal.returns-clause-gone
returns-clause-gone c =
    sym (at_drop_all (let_go (variables_model c.loop-argument.variables)) c.args.arguments.now c.loop-argument.argument-index c.loop-argument-test.false)
    ∙ c.loop-argument.invariant.gone
