use Rattle.std.proofs.Common.{Ok, Err, ◌<◌, ◌≤◌, [], refl, flat_map, length, ap, subst}
use Rattle.rules.specs.Arguments.{argument_checks}
use Rattle.rules.specs.Sites.{method_of, row_of}
use Rattle.rules.proofs.ArgumentLemmas.{again_stands, below_both, left_all, left_found, left_less, left_none, past_one, zip_more, zip_none}
use Rattle.rules.proofs.arguments.require_arguments.Goals as goal

pub returns-in_err-require_none_again : goal.returns-in_err-require_none_again
returns-in_err-require_none_again c =
    let m = method_of c.args.here.now in
    left_found _ _ _ _ c.from_residual.result _ refl c.from_residual.ensures.1
    (again_stands [] c.args.arguments.now c.args.again (Err _) c.requires c.in_err-require_none_again.ensures) (left_all _)

pub loop-number-init : goal.loop-number-init
loop-number-init c =
    let m = method_of c.args.here.now in
    left_less _ _ _ _ refl
    (again_stands [] c.args.arguments.now c.args.again (Ok tt) c.requires c.in_ok-require_none_again.ensures) (left_all _)

pub returns-in_err-require_argument : goal.returns-in_err-require_argument
returns-in_err-require_argument c =
    let types = c.args.types.now in
    let given = c.args.arguments.now in
    let m = method_of c.args.here.now in
    let one = argument_checks m (row_of c.args.here.now) in
    let n = c.loop-number.number in
    let lt = below_both (length types) (length given) n (subst (λ end. n < end) c.min-number-end.ensures c.loop-number-test.true) in
    left_found _ _ _ _ c.from_residual-in_err-require_argument.result _
    (ap (flat_map (λ x. one x.0 x.1)) (zip_more types given n _ _ lt.0 lt.1)) c.from_residual-in_err-require_argument.ensures.1 c.in_err-require_argument.ensures c.loop-number.invariant

pub returns : goal.returns
returns c =
    let types = c.args.types.now in
    let given = c.args.arguments.now in
    let m = method_of c.args.here.now in
    let one = argument_checks m (row_of c.args.here.now) in
    let n = c.loop-number.number in
    left_none _ _
    (ap (flat_map (λ x. one x.0 x.1)) (zip_none types given n (past_one (length types) (length given) n (subst (λ end. end ≤ n) c.min-number-end.ensures c.loop-number-test.false)))) c.loop-number.invariant
