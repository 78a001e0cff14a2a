use Rattle.std.proofs.Common.{length, take}
use Rattle.singcheck.proofs.BoundsLemmas.{AddsLines, paired}
use Rattle.singcheck.proofs.bounds.bounds_lines.Given as goal

abbrev pub invariant-loop-contract : goal.invariant-loop-contract
invariant-loop-contract l = AddsLines (take (length l.yielded) (paired l.clean.resolved.contracts.items l.clean.sounds.items)) l.answer.items
