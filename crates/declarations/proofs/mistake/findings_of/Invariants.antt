use Rattle.std.proofs.Common.{◌≡◌, map, take}
use Rattle.source.specs.Findings.{finding_model}
use Rattle.declarations.specs.Mistakes.{finding_in}
use Rattle.declarations.proofs.mistake.findings_of.Given as goal

abbrev pub invariant-loop-mistake : goal.invariant-loop-mistake
invariant-loop-mistake l = map finding_model l.found.items ≡ map (finding_in l.text) (take l.mistake-index l.mistakes)
