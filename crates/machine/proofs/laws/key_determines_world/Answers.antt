use Rattle.machine.proofs.KeyLemmas.{one_world}
use Rattle.machine.proofs.laws.key_determines_world.Goals as goal

pub returns : goal.returns
returns c = one_world
