use Rattle.std.proofs.Common.{◌≡◌, map}
use Rattle.std.specs.List.{All}
use Rattle.source.specs.Findings.{finding_model}
use Rattle.program.specs.Parts.{contract_model}
use Rattle.explanations.specs.Explained.{explained_model}
use Rattle.singcheck.specs.Broken.{IsBrokenIn, found_of}
use Rattle.singcheck.specs.Explains.{IsShownIn}
use Rattle.singcheck.proofs.explaining.explain_contracts.Given as goal

abbrev pub invariant-loop-one : goal.invariant-loop-one
invariant-loop-one l = record {
  same : map (λ e. finding_model e.finding) l.found.items ≡ found_of l.yielded;
  each : All (λ e. IsShownIn l.named (map contract_model l.resolved.contracts.items) (explained_model e)) l.found.items;
  left : All (IsBrokenIn (map contract_model l.resolved.contracts.items)) l.one-iterator.rest.items;
}
