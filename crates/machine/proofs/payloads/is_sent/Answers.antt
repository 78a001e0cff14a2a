use Rattle.std.proofs.Common.{sym, ◌∙◌}
use Rattle.machine.specs.Views.{variables_model}
use Rattle.machine.proofs.GiveLemmas.{sent_claims, sent_claims_not}
use Rattle.machine.proofs.payloads.is_sent.Goals as goal

pub returns-then-address-a : goal.returns-then-address-a
returns-then-address-a c =
    sym (sent_claims (variables_model c.args.frame.now.variables) c.args.payloads.now c.loop-mention.mention-index c.args.a _ c.loop-mention-test.true (sym c.address.ensures ∙ c.if-address-a.true))

pub loop-mention-preserved : goal.loop-mention-preserved
loop-mention-preserved c =
    sent_claims_not (variables_model c.args.frame.now.variables) c.args.payloads.now c.loop-mention.mention-index c.args.a _ c.loop-mention-test.true c.loop-mention.invariant
    (λ is. c.if-address-a.false (c.address.ensures ∙ is))
