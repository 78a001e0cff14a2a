use Rattle.expected.proofs.Trials.{wrong_within}
use Rattle.expected.proofs.laws.fault_is_within.Goals as goal

pub returns : goal.returns
returns c = wrong_within
