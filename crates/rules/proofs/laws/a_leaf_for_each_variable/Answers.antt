use Rattle.rules.proofs.RowLemmas.{entry_on, step_on}
use Rattle.rules.proofs.laws.a_leaf_for_each_variable.Goals as goal

pub returns-clause-entry : goal.returns-clause-entry
returns-clause-entry c = entry_on

pub returns-clause-step : goal.returns-clause-step
returns-clause-step c = step_on
