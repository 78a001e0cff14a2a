use Rattle.std.proofs.Common.{inr, subst}
use Rattle.std.proofs.lemmas.Result.{IfOk-weaker}
use Rattle.rules.specs.Programs.{model_of}
use Rattle.singcheck.specs.Entered.{ComesIn}
use Rattle.singcheck.specs.Replays.{OfFindings}
use Rattle.singcheck.specs.Safety.{Reported}
use Rattle.singcheck.proofs.ReplayLemmas.{KnownOf, ran_safely, ran_within_bounds, some_always, some_map}
use Rattle.singcheck.proofs.replaying.answer_to.Goals as goal

pub returns-in_ok-refused_report-in-Err-clause-replays : goal.returns-in_ok-refused_report-in-Err-clause-replays
returns-in_ok-refused_report-in-Err-clause-replays g c = some_always (g.Q.Source.remaining c.args.schedule.now) _
    (λ lines. OfFindings c.in_ok-refused_report-in-Err.ensures.bytes c.in_ok-refused_report-in-Err.ensures.status)

pub returns-in_ok-refused_report-in-Err-clause-safe : goal.returns-in_ok-refused_report-in-Err-clause-safe
returns-in_ok-refused_report-in-Err-clause-safe g c = some_always (g.Q.Source.remaining c.args.schedule.now) _ (λ lines empty.
    let told = c.in_ok-refused_report-in-Err.ensures.bytes in
    absurd (c.findings_or_program.ensures c.args.text.now told.found empty.1.program told.are empty.1.has))

pub returns-in-Ok-Some-clause-safe : goal.returns-in-Ok-Some-clause-safe
returns-in-Ok-Some-clause-safe g c =
    let text = c.args.text.now in
    let entry = c.args.entry.now in
    let begun = subst (ComesIn text entry) c.in-Ok-Some.field-0-is c.in-Ok-Some.ensures.begun in
    let known : KnownOf text = record {
      formed = c.each_program_is_well_formed.ensures.formed text;
      sound = c.each_program_is_well_formed.ensures.sound text;
      bare = c.each_program_is_well_formed.ensures.bare text;
      bounds = c.each_program_has_bounds.ensures text;
      one = c.one_program.ensures.one text;
      safe = c.empty_report_is_safe.ensures;
      bounded = c.runs_are_bounded.ensures;
    } in
    IfOk-weaker c.run_schedule.result _ _ (λ answer h. some_map (g.Q.Source.remaining c.args.schedule.now) _ _
    (λ lines ran. ran_safely entry lines text answer.bytes.items answer.status known (ran text entry begun)) h) c.run_schedule.ensures.ran

pub returns-in-Ok-Some-clause-bounded : goal.returns-in-Ok-Some-clause-bounded
returns-in-Ok-Some-clause-bounded g c =
    let text = c.args.text.now in
    let entry = c.args.entry.now in
    let begun = subst (ComesIn text entry) c.in-Ok-Some.field-0-is c.in-Ok-Some.ensures.begun in
    let known : KnownOf text = record {
      formed = c.each_program_is_well_formed.ensures.formed text;
      sound = c.each_program_is_well_formed.ensures.sound text;
      bare = c.each_program_is_well_formed.ensures.bare text;
      bounds = c.each_program_has_bounds.ensures text;
      one = c.one_program.ensures.one text;
      safe = c.empty_report_is_safe.ensures;
      bounded = c.runs_are_bounded.ensures;
    } in
    IfOk-weaker c.run_schedule.result _ _ (λ answer h. some_map (g.Q.Source.remaining c.args.schedule.now) _ _
    (λ lines ran. ran_within_bounds entry lines text answer.bytes.items answer.status known (ran text entry begun)) h) c.run_schedule.ensures.ran

pub returns-in-Ok-Some-clause-untouched : goal.returns-in-Ok-Some-clause-untouched
returns-in-Ok-Some-clause-untouched g c =
    let begun = subst (ComesIn c.args.text.now c.args.entry.now) c.in-Ok-Some.field-0-is c.in-Ok-Some.ensures.begun in
    inr (model_of c.in-Ok-Some.begun.program, c.in-Ok-Some.begun.method.0, begun.entered)

pub returns-in_ok-refused_report-in-Err-clause-bounded : goal.returns-in_ok-refused_report-in-Err-clause-bounded
returns-in_ok-refused_report-in-Err-clause-bounded g c = some_always (g.Q.Source.remaining c.args.schedule.now) _
    (λ lines. Reported c.in_ok-refused_report-in-Err.ensures.bytes c.in_ok-refused_report-in-Err.ensures.status)

pub returns-in_ok-refused_report-in-Err-clause-rest : goal.returns-in_ok-refused_report-in-Err-clause-rest
returns-in_ok-refused_report-in-Err-clause-rest g c = λ has.
    let told = c.in_ok-refused_report-in-Err.ensures.bytes in
    absurd (c.findings_or_program.ensures c.args.text.now told.found has.0 told.are has.2.has)

pub returns-in-Ok-Some-clause-line : goal.returns-in-Ok-Some-clause-line
returns-in-Ok-Some-clause-line g c = λ n told.
    let begun = subst (ComesIn c.args.text.now c.args.entry.now) c.in-Ok-Some.field-0-is c.in-Ok-Some.ensures.begun in
    some_map (g.Q.Source.remaining c.args.schedule.now) _ _ (λ lines wrong. record {
      program = model_of c.in-Ok-Some.begun.program;
      n = c.in-Ok-Some.begun.method.0;
      entered = begun.entered;
      malformed = wrong;
    }) (c.run_schedule.ensures.line n told)
