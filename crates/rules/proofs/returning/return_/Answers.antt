use Rattle.std.proofs.Common.{Ok, Err, [], ◌∙◌}
use Rattle.rules.proofs.CallLemmas.{both_stand, second_of, told_on}
use Rattle.rules.proofs.returning.return_.Goals as goal

pub returns-in_err-require_back : goal.returns-in_err-require_back
returns-in_err-require_back c =
    told_on c.from_residual-in_err-require_back.result _ _ c.from_residual-in_err-require_back.ensures.1
    ∙ second_of _ _ (Err _) [] c.in_ok-require_value.ensures
    (both_stand _ _ (Err _) c.in_ok-require_given_back.ensures c.in_err-require_back.ensures)

pub returns : goal.returns
returns c =
    second_of _ _ (Ok tt) [] c.in_ok-require_value.ensures
    (both_stand _ _ (Ok tt) c.in_ok-require_given_back.ensures c.in_ok-require_back.ensures)
