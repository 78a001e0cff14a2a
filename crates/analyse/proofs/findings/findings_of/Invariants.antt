use Rattle.std.proofs.Common.{◌≡◌, map, take}
use Rattle.source.specs.Findings.{finding_model}
use Rattle.rules.specs.Breaches.{breach_in}
use Rattle.rules.specs.Programs.{model_of}
use Rattle.analyse.proofs.findings.findings_of.Given as goal

abbrev pub invariant-loop-breach : goal.invariant-loop-breach
invariant-loop-breach l = map finding_model l.findings.items ≡ map (breach_in (model_of l.program) l.method.0) (take l.breach-index l.breach-items)
