use Rattle.std.proofs.Common.{◌∙◌, List, subst}
use Rattle.std.proofs.lemmas.Result.{IfOk-weaker}
use Rattle.std.specs.Prelude.{IfSome}
use Rattle.machine.specs.declared.halts.Event.{Event}
use Rattle.replays.specs.Schedules.{IsSchedule}
use Rattle.singcheck.proofs.printed_runs.schedule_of_run.Goals as goal

pub returns : goal.returns
returns c =
    IfOk-weaker c.schedule_of.result _ _ (λ schedule is. subst (λ (es : List Event). IfSome schedule (λ s. IsSchedule s.items es))
    (c.deref.ensures.value ∙ c.in_ok-events.ensures) is) c.schedule_of.ensures
