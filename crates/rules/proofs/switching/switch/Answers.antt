use Rattle.std.proofs.Common.{◌∙◌, Ok, Err, ap}
use Rattle.flow.specs.Graphs.{cases_model}
use Rattle.rules.specs.Breaches.{breach_model}
use Rattle.rules.specs.Outcomes.{Goes}
use Rattle.rules.specs.Switches.{switch_checks, switch_pairs}
use Rattle.rules.specs.Sites.{method_of, program_of, row_of}
use Rattle.rules.proofs.CallLemmas.{alone}
use Rattle.rules.proofs.switching.switch.Goals as goal

pub returns-in_ok-ways-in-Ok : goal.returns-in_ok-ways-in-Ok
returns-in_ok-ways-in-Ok c =
    let p = program_of c.args.here.now in
    let m = method_of c.args.here.now in
    let row = row_of c.args.here.now in
    let cases = cases_model c.args.cases.now in
    ap Goes c.in_ok-ways-in-Ok.ensures
    ∙ alone (switch_checks p m row c.args.place cases) (Ok tt) (switch_pairs p m row cases) c.in-Ok.ensures

pub returns-in-Err : goal.returns-in-Err
returns-in-Err c =
    let p = program_of c.args.here.now in
    let m = method_of c.args.here.now in
    let row = row_of c.args.here.now in
    let cases = cases_model c.args.cases.now in
    alone (switch_checks p m row c.args.place cases) (Err c.in-Err.breach) (switch_pairs p m row cases) c.in-Err.ensures
