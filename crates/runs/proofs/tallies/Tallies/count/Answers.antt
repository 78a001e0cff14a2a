use Rattle.std.proofs.Common.{subst}
use Rattle.replays.specs.declared.end.EndKind.TheVariants.{Ended, Deadlock, Fault, Running}
use Rattle.runs.specs.Tallies.{HasRun}
use Rattle.runs.proofs.TallyLemmas.{one_more_tally}
use Rattle.runs.proofs.tallies.Tallies.count.Goals as goal

pub returns-in-Ended : goal.returns-in-Ended
returns-in-Ended c = λ t m is run. record {
  ended = one_more_tally t m Ended c.args.self.now.ended c.one_more.result.events c.args.events is.ended
      (subst (λ w. HasRun t m w c.args.events) c.in-Ended.is run) c.one_more.ensures;
  locked = is.locked;
  faulty = is.faulty;
  running = is.running;
}

pub returns-in-Deadlock : goal.returns-in-Deadlock
returns-in-Deadlock c = λ t m is run. record {
  ended = is.ended;
  locked = one_more_tally t m Deadlock c.args.self.now.locked c.one_more-in-Deadlock.result.events c.args.events is.locked
      (subst (λ w. HasRun t m w c.args.events) c.in-Deadlock.is run) c.one_more-in-Deadlock.ensures;
  faulty = is.faulty;
  running = is.running;
}

pub returns-in-Fault : goal.returns-in-Fault
returns-in-Fault c = λ t m is run. record {
  ended = is.ended;
  locked = is.locked;
  faulty = one_more_tally t m Fault c.args.self.now.faulty c.one_more-in-Fault.result.events c.args.events is.faulty
      (subst (λ w. HasRun t m w c.args.events) c.in-Fault.is run) c.one_more-in-Fault.ensures;
  running = is.running;
}

pub returns-in-Running : goal.returns-in-Running
returns-in-Running c = λ t m is run. record {
  ended = is.ended;
  locked = is.locked;
  faulty = is.faulty;
  running = one_more_tally t m Running c.args.self.now.running c.one_more-in-Running.result.events c.args.events is.running
      (subst (λ w. HasRun t m w c.args.events) c.in-Running.is run) c.one_more-in-Running.ensures;
}
