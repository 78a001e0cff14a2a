use Rattle.std.proofs.Common.{◌≡◌, map}
use Rattle.std.specs.List.{All}
use Rattle.program.specs.Parts.{contract_parts}
use Rattle.source.specs.Findings.{finding_model}
use Rattle.explanations.specs.Explained.{explained_model}
use Rattle.contract_traces.specs.Shown.{IsShown}
use Rattle.contract_traces.proofs.conditions.show_faults.Given as goal

abbrev pub invariant-loop-finding : goal.invariant-loop-finding
invariant-loop-finding l = record {
  same : map (λ e. finding_model e.finding) l.shown.items ≡ map finding_model l.yielded;
  shown : All (λ e. IsShown l.fn.named (contract_parts l.fn.contract) (explained_model e)) l.shown.items;
}
