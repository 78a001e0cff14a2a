use Rattle.std.proofs.Common.{map, refl, sym, ◌∙◌}
use Rattle.std.proofs.lemmas.List.{at_drop_all}
use Rattle.rows.specs.Rows.{row_model}
use Rattle.rules.specs.Arguments.{after_claims, payload}
use Rattle.rules.proofs.PayloadLemmas.{taken_gone}
use Rattle.rules.proofs.payloads.claim_payloads.Goals as goal

pub loop-mention-init : goal.loop-mention-init
loop-mention-init c = refl

pub loop-mention-preserved : goal.loop-mention-preserved
loop-mention-preserved c = taken_gone _ _ c.args.payloads.now c.loop-mention.mention-index _ c.loop-mention-test.true c.set.ensures ∙ c.loop-mention.invariant

pub returns : goal.returns
returns c = sym (at_drop_all (λ l. after_claims (row_model c.loop-mention.row) (map payload l)) c.args.payloads.now c.loop-mention.mention-index c.loop-mention-test.false) ∙ c.loop-mention.invariant
