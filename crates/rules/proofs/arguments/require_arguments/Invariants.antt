use Rattle.std.proofs.Common.{drop, flat_map, zip}
use Rattle.rules.specs.Arguments.{all_arguments, argument_checks}
use Rattle.rules.specs.Sites.{method_of, row_of}
use Rattle.rules.proofs.ArgumentLemmas.{Left}
use Rattle.rules.proofs.arguments.require_arguments.Given as goal

abbrev pub invariant-loop-number : goal.invariant-loop-number
invariant-loop-number l =
    let m = method_of l.here in
    let row = row_of l.here in
    Left (all_arguments m row l.types l.arguments) (flat_map (λ x. argument_checks m row x.0 x.1) (zip (drop l.number l.types) (drop l.number l.arguments)))
