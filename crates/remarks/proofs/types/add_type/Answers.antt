use Rattle.remarks.proofs.PieceLemmas.{both_added}
use Rattle.remarks.proofs.types.add_type.Goals as goal

pub returns-in_ok-add-in-Array : goal.returns-in_ok-add-in-Array
returns-in_ok-add-in-Array c =
    rw (c.in-Array.is, ← c.scalar_words-in-Array.ensures)
    (both_added _ _ _ _ _ _ c.in_ok-add-in-Array.ensures c.add-in-Array-2.ensures)

pub returns-in-Unknown : goal.returns-in-Unknown
returns-in-Unknown c = rw c.in-Unknown.is c.add-in-Unknown.ensures
