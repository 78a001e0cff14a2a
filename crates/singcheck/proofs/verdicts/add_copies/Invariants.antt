use Rattle.std.proofs.Common.{◌≡◌, ◌++◌, map, take}
use Rattle.source.specs.Findings.{finding_model}
use Rattle.singcheck.proofs.verdicts.add_copies.Given as goal

abbrev pub invariant-loop-finding : goal.invariant-loop-finding
invariant-loop-finding l = map finding_model l.found.items ≡ map finding_model l.initial.found.items ++ map finding_model (take l.finding-index l.findings)
