use Rattle.std.proofs.Common.{◌≡◌, ◌∙◌, [], Err, false, true, flat_map, map, sym, ap}
use Rattle.std.specs.List.{list_all}
use Rattle.flow.specs.Cases.{first_mentions}
use Rattle.flow.specs.Graphs.{cases_model}
use Rattle.rules.specs.Mentions.{require_owned}
use Rattle.rules.specs.Switches.{cover_checks, is_to_send}
use Rattle.rules.specs.Outcomes.{breach_at}
use Rattle.rules.specs.declared.breach.Reason.TheVariants.{NothingToReceive}
use Rattle.rules.specs.Sites.{method_of, program_of, row_of}
use Rattle.rules.proofs.CallLemmas.{both_stand, first_stands, of_checks, passes, refuses}
use Rattle.rules.proofs.switching.require_cases.Goals as goal

pub returns-in_err-require_all_owned : goal.returns-in_err-require_all_owned
returns-in_err-require_all_owned c =
    let p = program_of c.args.here.now in
    let m = method_of c.args.here.now in
    let row = row_of c.args.here.now in
    let there = of_checks (ap (map (require_owned row)) c.endpoints.ensures) c.in_err-require_all_owned.ensures in
    first_stands (map (require_owned row) (first_mentions [] (cases_model c.args.cases.now))) _ c.from_residual.result _ c.from_residual.ensures.1 there

pub returns-then-are_to_send : goal.returns-then-are_to_send
returns-then-are_to_send c =
    let p = program_of c.args.here.now in
    let m = method_of c.args.here.now in
    let row = row_of c.args.here.now in
    let named = first_mentions [] (cases_model c.args.cases.now) in
    let there = of_checks (ap (map (require_owned row)) c.endpoints.ensures) c.in_ok-require_all_owned.ensures in
    let all_send : list_all (is_to_send p m row) named ≡ true = ap (list_all (is_to_send p m row)) (sym c.endpoints-2.ensures) ∙ sym c.are_to_send.ensures ∙ c.if-are_to_send.true in
    both_stand (map (require_owned row) named) _ (Err c.at.result) there
    (refuses (list_all (is_to_send p m row) named) (breach_at c.args.place NothingToReceive) _ c.at.result all_send c.at.ensures)

pub returns : goal.returns
returns c =
    let p = program_of c.args.here.now in
    let m = method_of c.args.here.now in
    let row = row_of c.args.here.now in
    let cases = cases_model c.args.cases.now in
    let named = first_mentions [] cases in
    let there = of_checks (ap (map (require_owned row)) c.endpoints.ensures) c.in_ok-require_all_owned.ensures in
    let some_waits : list_all (is_to_send p m row) named ≡ false = ap (list_all (is_to_send p m row)) (sym c.endpoints-2.ensures) ∙ sym c.are_to_send.ensures ∙ c.if-are_to_send.false in
    both_stand (map (require_owned row) named) _ c.require_all_covered.result there
    (passes (list_all (is_to_send p m row) named) (breach_at c.args.place NothingToReceive) (flat_map (cover_checks p m row cases) named) c.require_all_covered.result some_waits c.require_all_covered.ensures)
