use Rattle.replays.proofs.JournalLemmas.{run_of}
use Rattle.replays.proofs.laws.lines_are_of_runs.Goals as goal

pub returns : goal.returns
returns c = run_of
