use Rattle.std.proofs.Common.{map, take}
use Rattle.source.specs.Findings.{finding_model}
use Rattle.rules.specs.Programs.{model_of}
use Rattle.pool.specs.Counts.{method_of}
use Rattle.singcheck.specs.Verdicts.{AreOfMethods}
use Rattle.singcheck.proofs.verdicts.found_in.Given as goal

abbrev pub invariant-loop-one : goal.invariant-loop-one
invariant-loop-one l = AreOfMethods (model_of l.program) (map method_of (take l.one-index l.done)) (map finding_model l.found.items)
