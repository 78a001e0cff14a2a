use Rattle.remarks.proofs.PieceLemmas.{both_added}
use Rattle.remarks.proofs.mismatches.add_mismatch.Goals as goal

pub returns-in_ok-add-in-NoValue : goal.returns-in_ok-add-in-NoValue
returns-in_ok-add-in-NoValue c =
    rw c.in-NoValue.is (both_added _ _ _ _ _ _ c.in_ok-add-in-NoValue.ensures c.add_type.ensures)

pub returns-in-ValueReturned : goal.returns-in-ValueReturned
returns-in-ValueReturned c = rw c.in-ValueReturned.is c.add-in-ValueReturned.ensures

pub returns-in-SendStarted : goal.returns-in-SendStarted
returns-in-SendStarted c = rw c.in-SendStarted.is c.add-in-SendStarted.ensures

pub returns-in-LengthWritten : goal.returns-in-LengthWritten
returns-in-LengthWritten c = rw c.in-LengthWritten.is c.add-in-LengthWritten.ensures
