use Rattle.std.proofs.Common.{map}
use Rattle.flow.specs.Graphs.{cases_model}
use Rattle.rules.specs.Steps.{pair_model}
use Rattle.rules.specs.Switches.{awaited_edges, receive_pairs}
use Rattle.rules.specs.Sites.{method_of, program_of, row_of}
use Rattle.rules.proofs.SwitchLemmas.{Adds}
use Rattle.rules.proofs.switching.come_at.Given as goal

abbrev pub invariant-loop-edge : goal.invariant-loop-edge
invariant-loop-edge l =
    let p = program_of l.here in
    let m = method_of l.here in
    let row = row_of l.here in
    Adds (receive_pairs p m row (cases_model l.cases) l.endpoint.variable.0) (map pair_model l.fn.pairs.items) (awaited_edges p m row l.endpoint) (map pair_model l.pairs.items) l.edge-index
