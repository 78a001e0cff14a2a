use Rattle.wellformed.proofs.MethodLemmas.{all_bare, well_formed}
use Rattle.wellformed.proofs.laws.clean_methods_are_well_formed.Goals as goal

pub returns-clause-formed : goal.returns-clause-formed
returns-clause-formed c = λ p clean. well_formed p clean

pub returns-clause-bare : goal.returns-clause-bare
returns-clause-bare c = λ p. all_bare p
