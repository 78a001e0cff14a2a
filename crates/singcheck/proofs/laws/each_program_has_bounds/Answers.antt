use Rattle.singcheck.proofs.HasBoundsLemmas.{has_bounds}
use Rattle.singcheck.proofs.laws.each_program_has_bounds.Goals as goal

pub returns : goal.returns
returns c = has_bounds (record { whole = c.clean_contracts_are_whole.ensures; bounded = c.each_contract_is_judged.ensures.bounds })
