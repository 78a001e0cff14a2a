use Rattle.std.proofs.Common.{[], drop, flat_map}
use Rattle.flow.specs.Cases.{first_mentions}
use Rattle.flow.specs.Graphs.{cases_model}
use Rattle.rules.specs.Switches.{cover_checks}
use Rattle.rules.specs.Sites.{method_of, program_of, row_of}
use Rattle.rules.proofs.ArgumentLemmas.{Left}
use Rattle.rules.proofs.switching.require_all_covered.Given as goal

abbrev pub invariant-loop-endpoint : goal.invariant-loop-endpoint
invariant-loop-endpoint l =
    let one = cover_checks (program_of l.here) (method_of l.here) (row_of l.here) (cases_model l.cases) in
    let endpoints = first_mentions [] (cases_model l.cases) in
    Left (flat_map one endpoints) (flat_map one (drop l.endpoint-index endpoints))
