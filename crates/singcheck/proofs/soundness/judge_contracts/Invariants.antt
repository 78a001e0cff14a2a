use Rattle.std.proofs.Common.{map, take}
use Rattle.std.specs.List.{All}
use Rattle.program.specs.Parts.{contract_model}
use Rattle.singcheck.specs.Broken.{IsBrokenIn}
use Rattle.singcheck.specs.Judgements.{AreJudged}
use Rattle.singcheck.proofs.soundness.judge_contracts.Given as goal

abbrev pub invariant-loop-number : goal.invariant-loop-number
invariant-loop-number l = record {
  judged : AreJudged (take l.number (map contract_model l.resolved.contracts.items)) l.judging;
  each : All (IsBrokenIn (map contract_model l.resolved.contracts.items)) l.judging.broken.items;
}
