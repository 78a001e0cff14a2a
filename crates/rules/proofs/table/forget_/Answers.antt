use Rattle.std.proofs.Common.{[], ◌∷◌, ◌∙◌, Ok, Err}
use Rattle.rules.specs.Sites.{row_of}
use Rattle.rules.proofs.CallLemmas.{alone, told_on}
use Rattle.rules.proofs.table.forget_.Goals as goal

pub returns-in_err-require_given_back : goal.returns-in_err-require_given_back
returns-in_err-require_given_back c =
    told_on c.from_residual.result _ _ c.from_residual.ensures.1
    ∙ alone _ (Err _) _ c.in_err-require_given_back.ensures

pub returns : goal.returns
returns c =
    alone _ (Ok tt) ((c.args.next, row_of c.args.here.now) ∷ []) c.in_ok-require_given_back.ensures
