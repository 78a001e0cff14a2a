use Rattle.std.proofs.Common.{ap, length, subst, sym, ◌<◌, ◌∙◌}
use Rattle.std.proofs.lemmas.Result.{IfOk-weaker}
use Rattle.program.specs.Programs.{ProgramModel}
use Rattle.replays.specs.Telling.{tracer_words}
use Rattle.singcheck.specs.PrintedRuns.{Locks, end_status}
use Rattle.singcheck.proofs.ExploreLemmas.{AgreeOnDeadlocks, locks_soonest}
use Rattle.singcheck.proofs.RunLemmas.{AgreeOnRuns, if_ok_three}
use Rattle.singcheck.proofs.explorations.shortest_run.Goals as goal

pub follow-requires : goal.follow-requires
follow-requires c = record {
  there = subst (λ (p : ProgramModel). c.args.begun.now.method.0 < length p.methods) (sym c.in_ok-tracer.ensures.program) c.requires.there;
}

pub returns-in-Deadlock : goal.returns-in-Deadlock
returns-in-Deadlock c =
    let run = c.in_ok-run.run' in
    let words = tracer_words c.in_ok-tracer.tracer in
    let agree : AgreeOnRuns = record {
      steps = c.events_agree.ensures.steps;
      graphs = c.events_agree.ensures.graphs;
      lines = c.lines_are_of_runs.ensures;
    } in
    let both : AgreeOnDeadlocks = record { leads = c.deadlocks_agree.ensures.leads; back = c.deadlocks_agree.ensures.back } in
    if_ok_three c.printed_run.result _ _ _ _ (λ ran lines status told text entry begun.
    Locks (locks_soonest agree both text entry c.args.begun.now begun words (c.in_ok-tracer.ensures.words text entry begun) run c.in_ok-run.ensures.run
    ran.schedule told c.in-Deadlock.is c.args.events.now c.in_ok-run.ensures.few c.requires.soonest ran.report.bytes.items lines)
    (status ∙ ap end_status c.in-Deadlock.is))
    c.printed_run.ensures.lines c.printed_run.ensures.status c.printed_run.ensures.schedule

pub returns : goal.returns
returns c = IfOk-weaker c.print_unknown.result _ _ (λ ran told text entry begun. told text entry) c.print_unknown.ensures
