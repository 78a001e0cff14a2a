use Rattle.std.proofs.Common.{subst}
use Rattle.singcheck.specs.Entered.{ComesIn}
use Rattle.singcheck.specs.PrintedRuns.{Refused}
use Rattle.singcheck.proofs.explorations.explore_text.Goals as goal

pub returns-in_ok-explore_begun-in-Ok-Some-clause-explores : goal.returns-in_ok-explore_begun-in-Ok-Some-clause-explores
returns-in_ok-explore_begun-in-Ok-Some-clause-explores c =
    let text = c.args.text.now in
    let entry = c.args.entry.now in
    c.in_ok-explore_begun-in-Ok-Some.ensures text entry (subst (ComesIn text entry) c.in-Ok-Some.field-0-is c.in-Ok-Some.ensures.begun)

pub returns-in_ok-refused_report-in-Err-clause-explores : goal.returns-in_ok-refused_report-in-Err-clause-explores
returns-in_ok-refused_report-in-Err-clause-explores c =
    Refused c.in_ok-refused_report-in-Err.ensures.bytes c.in_ok-refused_report-in-Err.ensures.status
