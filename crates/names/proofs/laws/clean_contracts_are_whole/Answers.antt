use Rattle.names.proofs.CleanLemmas.{contracts_clean}
use Rattle.names.proofs.laws.clean_contracts_are_whole.Goals as goal

pub returns : goal.returns
returns c = λ p nothing. c.contracts_without_findings_are_whole.ensures p (contracts_clean p nothing)
