use Rattle.std.proofs.Common.{subst}
use Rattle.singcheck.specs.Entered.{ComesIn}
use Rattle.singcheck.specs.PrintedRuns.{OfFindings, OfRun}
use Rattle.singcheck.proofs.ReplayLemmas.{KnownOf}
use Rattle.singcheck.proofs.RunLemmas.{AgreeOnRuns, runs_faultless}
use Rattle.singcheck.proofs.random_runs.run_text.Goals as goal

pub returns-in_ok-run_begun-in-Ok-Some-clause-runs : goal.returns-in_ok-run_begun-in-Ok-Some-clause-runs
returns-in_ok-run_begun-in-Ok-Some-clause-runs c =
    let text = c.args.text.now in
    let entry = c.args.entry.now in
    let begun = subst (ComesIn text entry) c.in-Ok-Some.field-0-is c.in-Ok-Some.ensures.begun in
    OfRun (c.in_ok-run_begun-in-Ok-Some.ensures text entry begun)

pub returns-in_ok-run_begun-in-Ok-Some-clause-safe : goal.returns-in_ok-run_begun-in-Ok-Some-clause-safe
returns-in_ok-run_begun-in-Ok-Some-clause-safe c =
    let text = c.args.text.now in
    let entry = c.args.entry.now in
    let begun = subst (ComesIn text entry) c.in-Ok-Some.field-0-is c.in-Ok-Some.ensures.begun in
    let ran = c.in_ok-run_begun-in-Ok-Some.field-0 in
    let agree : AgreeOnRuns = record {
      steps = c.events_agree.ensures.steps;
      graphs = c.events_agree.ensures.graphs;
      lines = c.lines_are_of_runs.ensures;
    } in
    let known : KnownOf text = record {
      formed = c.each_program_is_well_formed.ensures.formed text;
      sound = c.each_program_is_well_formed.ensures.sound text;
      bare = c.each_program_is_well_formed.ensures.bare text;
      bounds = c.each_program_has_bounds.ensures text;
      one = c.one_program.ensures.one text;
      safe = c.empty_report_is_safe.ensures;
      bounded = c.runs_are_bounded.ensures;
    } in
    runs_faultless entry text ran.report.bytes.items c.args.options.now.detail ran.schedule ran.report.status known agree
    (c.in_ok-run_begun-in-Ok-Some.ensures text entry begun)

pub returns-in_ok-refused_report-in-Err-clause-runs : goal.returns-in_ok-refused_report-in-Err-clause-runs
returns-in_ok-refused_report-in-Err-clause-runs c =
    OfFindings c.in_ok-refused_report-in-Err.ensures.bytes c.in_ok-refused_report-in-Err.ensures.status

pub returns-in_ok-refused_report-in-Err-clause-safe : goal.returns-in_ok-refused_report-in-Err-clause-safe
returns-in_ok-refused_report-in-Err-clause-safe c = λ empty.
    let told = c.in_ok-refused_report-in-Err.ensures.bytes in
    absurd (c.findings_or_program.ensures c.args.text.now told.found empty.1.program told.are empty.1.has)
