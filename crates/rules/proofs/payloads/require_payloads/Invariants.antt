use Rattle.std.proofs.Common.{drop, flat_map, map, zip}
use Rattle.rules.specs.Arguments.{all_taken, payload, taken_checks}
use Rattle.rules.specs.Takers.{besides, wrong_in}
use Rattle.rules.specs.Sites.{method_of, row_of}
use Rattle.rules.proofs.ArgumentLemmas.{Left}
use Rattle.rules.proofs.payloads.require_payloads.Given as goal

abbrev pub invariant-loop-number : goal.invariant-loop-number
invariant-loop-number l =
    let m = method_of l.here in
    let row = row_of l.here in
    let wrong = wrong_in l.fn.taker in
    Left (all_taken m (besides l.fn.taker) row wrong l.types (map payload l.payloads)) (flat_map (λ x. taken_checks m row wrong x.0 x.1) (zip (drop l.number l.types) (map payload (drop l.number l.payloads))))
