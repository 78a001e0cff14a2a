use Rattle.replays.proofs.OnceLemmas.{not_both, one_line, one_schedule}
use Rattle.replays.proofs.laws.one_reading.Goals as goal

pub returns-clause-events : goal.returns-clause-events
returns-clause-events c = one_schedule

pub returns-clause-line : goal.returns-clause-line
returns-clause-line c = one_line

pub returns-clause-apart : goal.returns-clause-apart
returns-clause-apart c = not_both
