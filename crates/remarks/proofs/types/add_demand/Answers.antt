use Rattle.remarks.proofs.PieceLemmas.{both_added}
use Rattle.remarks.proofs.types.add_demand.Goals as goal

pub returns-in_ok-add-in-EndOf : goal.returns-in_ok-add-in-EndOf
returns-in_ok-add-in-EndOf c =
    rw c.in-EndOf.is (both_added _ _ _ _ _ _ c.in_ok-add-in-EndOf.ensures c.add_item.ensures)
