use Rattle.source.proofs.FaultLemmas.{one_fault_lem, none_of_tokens}
use Rattle.source.proofs.laws.one_fault.Goals as goal

pub returns-clause-one : goal.returns-clause-one
returns-clause-one c = one_fault_lem

pub returns-clause-none : goal.returns-clause-none
returns-clause-none c = none_of_tokens
