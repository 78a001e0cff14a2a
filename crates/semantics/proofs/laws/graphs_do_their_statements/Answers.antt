use Rattle.semantics.proofs.Standing.{method_is_at}
use Rattle.semantics.proofs.laws.graphs_do_their_statements.Goals as goal

pub returns : goal.returns
returns c = method_is_at
