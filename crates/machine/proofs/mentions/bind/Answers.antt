use Rattle.std.proofs.Common.{◌<◌, ◌≤◌, length, subst, sym, ◌∙◌}
use Rattle.rules.proofs.ArgumentLemmas.{below_both, past_one}
use Rattle.machine.specs.Views.{variables_model}
use Rattle.machine.proofs.TakeLemmas.{all_still}
use Rattle.machine.proofs.FrameLemmas.{bound_more, bound_none}
use Rattle.machine.proofs.mentions.bind.Goals as goal

pub put-requires : goal.put-requires
put-requires c =
    let n = c.loop-number.number in
    let lt = below_both (length c.args.targets.now) (length c.args.payload.now) n (subst (λ end. n < end) c.min-number-end.ensures c.loop-number-test.true) in
    record { takes = λ a e. c.loop-number.invariant.takes.may n _ lt.0 }

pub loop-number-preserved : goal.loop-number-preserved
loop-number-preserved c =
    let n = c.loop-number.number in
    let lt = below_both (length c.args.targets.now) (length c.args.payload.now) n (subst (λ end. n < end) c.min-number-end.ensures c.loop-number-test.true) in
    record {
      targets = bound_more (variables_model c.loop-number.variables) _ c.args.targets.now c.args.payload.now n _ _ lt.0 lt.1 c.put.ensures.put ∙ c.loop-number.invariant.targets;
      takes = all_still _ _ _ _ c.args.targets.now c.put.ensures.still c.loop-number.invariant.takes;
    }

pub returns : goal.returns
returns c =
    let n = c.loop-number.number in
    sym (bound_none (variables_model c.loop-number.variables) c.args.targets.now c.args.payload.now n
    (past_one (length c.args.targets.now) (length c.args.payload.now) n (subst (λ end. end ≤ n) c.min-number-end.ensures c.loop-number-test.false))) ∙ c.loop-number.invariant.targets
