use Rattle.rules.specs.RuleTable.{back_checks}
use Rattle.rules.specs.Sites.{method_of, program_of, row_of}
use Rattle.rules.proofs.ArgumentLemmas.{Left}
use Rattle.rules.proofs.BackLemmas.{back_from}
use Rattle.rules.proofs.returning.require_back.Given as goal

abbrev pub invariant-loop-variable : goal.invariant-loop-variable
invariant-loop-variable l =
    let p = program_of l.here in
    let m = method_of l.here in
    let row = row_of l.here in
    Left (back_checks p m row l.place) (back_from p m row l.place l.variable)
