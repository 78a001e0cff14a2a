use Rattle.replays.proofs.OnceLemmas.{front_events, front_line}
use Rattle.replays.proofs.laws.a_front_tells_all.Goals as goal

pub returns-clause-events : goal.returns-clause-events
returns-clause-events c = front_events

pub returns-clause-line : goal.returns-clause-line
returns-clause-line c = front_line
