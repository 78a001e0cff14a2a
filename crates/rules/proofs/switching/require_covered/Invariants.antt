use Rattle.std.proofs.Common.{drop}
use Rattle.flow.specs.Graphs.{cases_model}
use Rattle.rules.specs.Sites.{method_of, program_of, row_of}
use Rattle.rules.proofs.ArgumentLemmas.{Left}
use Rattle.rules.proofs.SwitchLemmas.{edge_checks}
use Rattle.rules.specs.Switches.{awaited_edges, cover_checks}
use Rattle.rules.proofs.switching.require_covered.Given as goal

abbrev pub invariant-loop-edge : goal.invariant-loop-edge
invariant-loop-edge l =
    let p = program_of l.here in
    let m = method_of l.here in
    let row = row_of l.here in
    Left (cover_checks p m row (cases_model l.cases) l.fn.endpoint) (edge_checks (cases_model l.cases) l.fn.endpoint (drop l.edge-index (awaited_edges p m row l.fn.endpoint)))
