use Rattle.rules.proofs.BreachLemmas.{equal_is_one}
use Rattle.rules.proofs.laws.equal_breaches_are_one.Goals as goal

pub returns : goal.returns
returns c = equal_is_one
