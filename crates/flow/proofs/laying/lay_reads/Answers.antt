use Rattle.std.proofs.Common.{refl}
use Rattle.program.specs.declared.statement.Action.TheVariants.{Use}
use Rattle.flow.specs.Graphs.{Act}
use Rattle.flow.specs.Lowering.{reads, one}
use Rattle.flow.proofs.BehindLemmas.{behind_goes_on}
use Rattle.flow.proofs.GrowthLemmas.{grew_one}
use Rattle.flow.proofs.laying.lay_reads.Goals as goal

pub loop-mention-preserved : goal.loop-mention-preserved
loop-mention-preserved c =
    behind_goes_on (λ m. m.now) reads (λ m. one (Act (Use m))) _ _ _ c.loop-mention.yielded c.in-Some.mention _ _ _ _ _ _ refl c.in-Some.ensures.steps c.loop-mention.invariant
    (grew_one _ _ _ c.loop-mention.entry _ (Act (Use c.in-Some.mention.now)) c.in_ok-entry.ensures.0 c.in_ok-entry.ensures.1 refl)
