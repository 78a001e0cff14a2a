use Rattle.contracts.specs.Bounds.{sign_to}
use Rattle.contracts.proofs.CandidateLemmas.{faults_listed}
use Rattle.contracts.proofs.GreatestLemmas.{bound_there}
use Rattle.contracts.proofs.laws.each_contract_is_judged.Goals as goal

pub returns : goal.returns
returns c = record { found = faults_listed; bounds = λ parts whole sound side. bound_there parts whole sound (sign_to side) }
