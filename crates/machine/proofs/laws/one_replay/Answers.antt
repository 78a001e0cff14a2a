use Rattle.machine.proofs.ReplayLemmas.{one_replay as law}
use Rattle.machine.proofs.laws.one_replay.Goals as goal

pub returns : goal.returns
returns c = law
