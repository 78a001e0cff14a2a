use Rattle.std.proofs.Common.{rules, subst, sym}
use Rattle.replays.specs.Schedules.{IsSchedule}
use Rattle.rules.specs.Programs.{model_of}
use Rattle.singcheck.specs.Entered.{ComesIn}
use Rattle.singcheck.specs.TracedReplays.{OfFindings, OfTrace}
use Rattle.singcheck.proofs.ReplayLemmas.{KnownOf, some_always, some_map}
use Rattle.singcheck.proofs.TraceLemmas.{traced_safely}
use Rattle.singcheck.proofs.traced_replays.trace_text.Goals as goal

pub returns-in_ok-refused_report-in-Err-clause-traces : goal.returns-in_ok-refused_report-in-Err-clause-traces
returns-in_ok-refused_report-in-Err-clause-traces g c = some_always (g.Q.Source.remaining c.args.schedule.now) _
    (λ lines. OfFindings c.in_ok-refused_report-in-Err.ensures.bytes c.in_ok-refused_report-in-Err.ensures.status)

pub returns-in_ok-refused_report-in-Err-clause-safe : goal.returns-in_ok-refused_report-in-Err-clause-safe
returns-in_ok-refused_report-in-Err-clause-safe g c = some_always (g.Q.Source.remaining c.args.schedule.now) _ (λ lines empty.
    let told = c.in_ok-refused_report-in-Err.ensures.bytes in
    absurd (c.findings_or_program.ensures c.args.text.now told.found empty.1.program told.are empty.1.has))

pub returns-in_ok-print_trace-in-Ok-Some-clause-traces : goal.returns-in_ok-print_trace-in-Ok-Some-clause-traces
returns-in_ok-print_trace-in-Ok-Some-clause-traces g c =
    let begun = subst (ComesIn c.args.text.now c.args.entry.now) c.in-Ok-Some.field-0-is c.in-Ok-Some.ensures.begun in
    some_map (g.Q.Source.remaining c.args.schedule.now) (λ lines. IsSchedule lines c.in_ok-events-in-Ok-Some.events.items) _
    (λ lines told. OfTrace (c.in_ok-print_trace-in-Ok-Some.ensures c.args.text.now c.args.entry.now lines begun
    (subst (IsSchedule lines) (sym c.deref.ensures.value) told))) c.in_ok-events-in-Ok-Some.ensures.told

pub returns-in_ok-print_trace-in-Ok-Some-clause-safe : goal.returns-in_ok-print_trace-in-Ok-Some-clause-safe
returns-in_ok-print_trace-in-Ok-Some-clause-safe g c =
    let text = c.args.text.now in
    let entry = c.args.entry.now in
    let begun = subst (ComesIn text entry) c.in-Ok-Some.field-0-is c.in-Ok-Some.ensures.begun in
    let report = c.in_ok-print_trace-in-Ok-Some.field-0 in
    let known : KnownOf text = record {
      formed = c.each_program_is_well_formed.ensures.formed text;
      sound = c.each_program_is_well_formed.ensures.sound text;
      bare = c.each_program_is_well_formed.ensures.bare text;
      bounds = c.each_program_has_bounds.ensures text;
      one = c.one_program.ensures.one text;
      safe = c.empty_report_is_safe.ensures;
      bounded = c.runs_are_bounded.ensures;
    } in
    some_map (g.Q.Source.remaining c.args.schedule.now) (λ lines. IsSchedule lines c.in_ok-events-in-Ok-Some.events.items) _
    (λ lines told. traced_safely entry c.args.detail lines text report.bytes.items report.status known
    (c.in_ok-print_trace-in-Ok-Some.ensures text entry lines begun (subst (IsSchedule lines) (sym c.deref.ensures.value) told)))
    c.in_ok-events-in-Ok-Some.ensures.told

pub returns-in_err-events-in-Ok-Some-clause-line : goal.returns-in_err-events-in-Ok-Some-clause-line
returns-in_err-events-in-Ok-Some-clause-line g c = λ n told.
    let begun = subst (ComesIn c.args.text.now c.args.entry.now) c.in-Ok-Some.field-0-is c.in-Ok-Some.ensures.begun in
    some_map (g.Q.Source.remaining c.args.schedule.now) _ _ (λ lines wrong. record {
      program = model_of c.in-Ok-Some.begun.program;
      n = c.in-Ok-Some.begun.method.0;
      entered = begun.entered;
      malformed = wrong;
    }) (c.in_err-events-in-Ok-Some.ensures.line n (search rules))
