use Rattle.semantics.proofs.Running.{event_alike, run_of_graphs, starts_alike, stated_run}
use Rattle.semantics.proofs.laws.events_agree.Goals as goal

pub returns-clause-begins : goal.returns-clause-begins
returns-clause-begins c = λ p n. starts_alike p (λ c s. 0) n

pub returns-clause-steps : goal.returns-clause-steps
returns-clause-steps c = event_alike

pub returns-clause-graphs : goal.returns-clause-graphs
returns-clause-graphs c = stated_run

pub returns-clause-statements : goal.returns-clause-statements
returns-clause-statements c = run_of_graphs
