use Rattle.std.proofs.Common.{◌≤◌, [], length, map, subst}
use Rattle.flow.specs.Cases.{first_mentions}
use Rattle.flow.specs.Graphs.{cases_model}
use Rattle.rules.specs.Steps.{pair_model}
use Rattle.rules.specs.Switches.{comes_at}
use Rattle.rules.specs.Sites.{method_of, program_of, row_of}
use Rattle.rules.proofs.SwitchLemmas.{adds_all}
use Rattle.rules.proofs.switching.ways.Goals as goal

pub returns : goal.returns
returns c =
    let p = program_of c.args.here.now in
    let m = method_of c.args.here.now in
    let row = row_of c.args.here.now in
    let cases = cases_model c.args.cases.now in
    let named = first_mentions [] cases in
    let le : length named ≤ c.loop-endpoint.endpoint-index = subst (λ es. length es ≤ c.loop-endpoint.endpoint-index) c.endpoints-endpoints.ensures c.loop-endpoint-test.false in
    adds_all (comes_at p m row cases) [] (map pair_model c.loop-endpoint.pairs.items) named c.loop-endpoint.endpoint-index le c.loop-endpoint.invariant
