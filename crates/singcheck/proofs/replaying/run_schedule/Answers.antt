use Rattle.std.proofs.Common.{subst, sym}
use Rattle.replays.specs.Schedules.{IsSchedule}
use Rattle.singcheck.proofs.ReplayLemmas.{some_map}
use Rattle.singcheck.proofs.replaying.run_schedule.Goals as goal

pub returns-clause-ran : goal.returns-clause-ran
returns-clause-ran g c =
    some_map (g.Q.Source.remaining c.args.schedule.now) (λ lines. IsSchedule lines c.in_ok-events.events.items) _
    (λ lines is_told text entry begun. c.in_ok-replay_events.ensures text entry lines begun (subst (IsSchedule lines) (sym c.deref.ensures.value) is_told))
    c.in_ok-events.ensures.told
