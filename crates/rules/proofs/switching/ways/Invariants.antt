use Rattle.std.proofs.Common.{[], map}
use Rattle.flow.specs.Cases.{first_mentions}
use Rattle.flow.specs.Graphs.{cases_model}
use Rattle.rules.specs.Steps.{pair_model}
use Rattle.rules.specs.Switches.{comes_at}
use Rattle.rules.specs.Sites.{method_of, program_of, row_of}
use Rattle.rules.proofs.SwitchLemmas.{Adds}
use Rattle.rules.proofs.switching.ways.Given as goal

abbrev pub invariant-loop-endpoint : goal.invariant-loop-endpoint
invariant-loop-endpoint l =
    let p = program_of l.here in
    let m = method_of l.here in
    let row = row_of l.here in
    Adds (comes_at p m row (cases_model l.cases)) [] (first_mentions [] (cases_model l.cases)) (map pair_model l.pairs.items) l.endpoint-index
