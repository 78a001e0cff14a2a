use Rattle.std.proofs.Common.{Ok, Err, ◌<◌, ◌≤◌, refl, flat_map, length, map, ap, subst}
use Rattle.rules.specs.Arguments.{payload, taken_checks}
use Rattle.rules.specs.Takers.{besides, wrong_in}
use Rattle.rules.specs.Sites.{method_of, program_of, row_of}
use Rattle.rules.proofs.ArgumentLemmas.{again_stands, below_both, left_all, left_found, left_less, left_none, past_one}
use Rattle.rules.proofs.PayloadLemmas.{taken_none, taken_side}
use Rattle.rules.proofs.payloads.require_payloads.Goals as goal

pub returns-in_err-require_none_again : goal.returns-in_err-require_none_again
returns-in_err-require_none_again c =
    let m = method_of c.args.here.now in
    left_found _ _ _ _ c.from_residual.result _ refl c.from_residual.ensures.1
    (again_stands (besides c.args.taker) (map payload c.args.payloads.now) c.first_again-again.result (Err _) c.first_again-again.ensures c.in_err-require_none_again.ensures) (left_all _)

pub loop-number-init : goal.loop-number-init
loop-number-init c =
    let m = method_of c.args.here.now in
    left_less _ _ _ _ refl
    (again_stands (besides c.args.taker) (map payload c.args.payloads.now) c.first_again-again.result (Ok tt) c.first_again-again.ensures c.in_ok-require_none_again.ensures) (left_all _)

pub returns-in_err-require_payload : goal.returns-in_err-require_payload
returns-in_err-require_payload c =
    let types = c.args.types.now in
    let given = c.args.payloads.now in
    let p = program_of c.args.here.now in
    let m = method_of c.args.here.now in
    let one = taken_checks m (row_of c.args.here.now) (wrong_in c.args.taker) in
    let n = c.loop-number.number in
    let lt = below_both (length types) (length given) n (subst (λ end. n < end) c.min-number-end.ensures c.loop-number-test.true) in
    left_found _ _ _ _ c.from_residual-in_err-require_payload.result _
    (ap (flat_map (λ x. one x.0 x.1)) (taken_side types given n _ _ lt.0 lt.1)) c.from_residual-in_err-require_payload.ensures.1 c.in_err-require_payload.ensures c.loop-number.invariant

pub returns : goal.returns
returns c =
    let types = c.args.types.now in
    let given = c.args.payloads.now in
    let p = program_of c.args.here.now in
    let m = method_of c.args.here.now in
    let one = taken_checks m (row_of c.args.here.now) (wrong_in c.args.taker) in
    let n = c.loop-number.number in
    left_none _ _
    (ap (flat_map (λ x. one x.0 x.1)) (taken_none types given n (past_one (length types) (length given) n (subst (λ end. end ≤ n) c.min-number-end.ensures c.loop-number-test.false)))) c.loop-number.invariant
