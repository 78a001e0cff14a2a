use Rattle.lost.proofs.RunLemmas.{run_lost, step_lost}
use Rattle.lost.proofs.laws.lost_stays_lost.Goals as goal

pub returns-clause-event : goal.returns-clause-event
returns-clause-event c = step_lost

pub returns-clause-run : goal.returns-clause-run
returns-clause-run c = run_lost
