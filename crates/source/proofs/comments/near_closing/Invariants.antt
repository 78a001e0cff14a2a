use Rattle.std.proofs.Common.{ℕ, ◌<◌, codes}
use Rattle.bstr.specs.Find.{OccursAt}
use Rattle.source.proofs.comments.near_closing.Given as goal

abbrev pub invariant-loop-i : goal.invariant-loop-i
invariant-loop-i l = (j : ℕ) → j < l.i → OccursAt l.body (codes "*/") j → ⊥
