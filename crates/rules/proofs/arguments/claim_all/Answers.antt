use Rattle.std.proofs.Common.{refl, sym, ◌∙◌}
use Rattle.std.proofs.lemmas.List.{at_drop_all}
use Rattle.rows.specs.Rows.{row_model}
use Rattle.rules.specs.Arguments.{after_claims}
use Rattle.rules.proofs.ArgumentLemmas.{claimed_more}
use Rattle.rules.proofs.arguments.claim_all.Goals as goal

pub loop-argument-init : goal.loop-argument-init
loop-argument-init c = refl

pub loop-argument-preserved : goal.loop-argument-preserved
loop-argument-preserved c = claimed_more _ _ c.args.arguments.now c.loop-argument.argument-index _ c.loop-argument-test.true c.claim.ensures ∙ c.loop-argument.invariant

pub returns : goal.returns
returns c = sym (at_drop_all (after_claims (row_model c.loop-argument.row)) c.args.arguments.now c.loop-argument.argument-index c.loop-argument-test.false) ∙ c.loop-argument.invariant
