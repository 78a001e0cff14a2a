use Rattle.std.proofs.Common.{sym, ◌∙◌}
use Rattle.std.proofs.lemmas.List.{at_drop_all}
use Rattle.machine.specs.Frames.{payloads_claimed}
use Rattle.machine.specs.World.{let_go}
use Rattle.machine.specs.Views.{variables_model}
use Rattle.machine.proofs.FrameLemmas.{claims_more}
use Rattle.machine.proofs.payloads.lets_payloads_go.Goals as goal

pub loop-mention-preserved : goal.loop-mention-preserved
loop-mention-preserved c = record {
  gone = claims_more (variables_model c.loop-mention.variables) _ c.args.payloads.now c.loop-mention.mention-index _ c.loop-mention-test.true
      c.put.ensures.put
      ∙ c.loop-mention.invariant.gone;
  still = λ u takes. c.put.ensures.still u (c.loop-mention.invariant.still u takes);
}

pub returns-clause-gone : goal.returns-clause-gone
returns-clause-gone c =
    sym (at_drop_all (λ l. let_go (variables_model c.loop-mention.variables) (payloads_claimed l)) c.args.payloads.now
    c.loop-mention.mention-index c.loop-mention-test.false)
    ∙ c.loop-mention.invariant.gone
