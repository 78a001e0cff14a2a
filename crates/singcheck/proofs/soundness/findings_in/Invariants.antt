use Rattle.std.proofs.Common.{◌≡◌, map}
use Rattle.source.specs.Findings.{finding_model}
use Rattle.singcheck.specs.Broken.{found_of}
use Rattle.singcheck.proofs.soundness.findings_in.Given as goal

abbrev pub invariant-loop-contract : goal.invariant-loop-contract
invariant-loop-contract l = map finding_model l.found.items ≡ found_of l.yielded
