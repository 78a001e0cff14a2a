use Rattle.semantics.proofs.Replaying.{place_same, positions_same, replay_alike, replay_too}
use Rattle.semantics.proofs.laws.replays_agree.Goals as goal

pub returns-clause-places : goal.returns-clause-places
returns-clause-places c = place_same

pub returns-clause-positions : goal.returns-clause-positions
returns-clause-positions c = λ p w s h. positions_same p w.processes s.processes h.processes

pub returns-clause-graphs : goal.returns-clause-graphs
returns-clause-graphs c = replay_alike

pub returns-clause-statements : goal.returns-clause-statements
returns-clause-statements c = replay_too
