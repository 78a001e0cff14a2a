use Rattle.std.proofs.Common.{◌≤◌, length, subst, sym, ◌∙◌}
use Rattle.rows.specs.Rows.{row_model}
use Rattle.rules.proofs.ArgumentLemmas.{past_one}
use Rattle.rules.proofs.SwitchLemmas.{bound_none}
use Rattle.rules.proofs.switching.bind.Goals as goal

pub returns : goal.returns
returns c =
    let n = c.loop-number.number in
    sym (bound_none (row_model c.loop-number.row) c.args.targets.now c.args.types.now n (past_one (length c.args.targets.now) (length c.args.types.now) n (subst (λ end. end ≤ n) c.min-number-end.ensures c.loop-number-test.false))) ∙ c.loop-number.invariant
