use Rattle.intern.proofs.IdLemmas.{named_walk, walk_known}
use Rattle.intern.proofs.laws.an_id_is_a_walk.Goals as goal

pub returns-clause-walk : goal.returns-clause-walk
returns-clause-walk c = named_walk

pub returns-clause-known : goal.returns-clause-known
returns-clause-known c = walk_known
