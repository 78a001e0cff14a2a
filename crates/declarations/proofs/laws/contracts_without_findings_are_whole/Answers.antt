use Rattle.declarations.proofs.WholeLemmas.{clean_whole}
use Rattle.declarations.proofs.laws.contracts_without_findings_are_whole.Goals as goal

pub returns : goal.returns
returns c = clean_whole
