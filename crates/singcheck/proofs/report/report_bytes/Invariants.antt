use Rattle.std.proofs.Common.{◌≡◌, take}
use Rattle.std.specs.List.{flat_map}
use Rattle.source.specs.Findings.{finding_model}
use Rattle.singcheck.specs.Lines.{finding_line}
use Rattle.singcheck.proofs.report.report_bytes.Given as goal

abbrev pub invariant-loop-finding : goal.invariant-loop-finding
invariant-loop-finding l = l.answer.items ≡ flat_map (λ f. finding_line (finding_model f)) (take l.finding-index l.findings)
