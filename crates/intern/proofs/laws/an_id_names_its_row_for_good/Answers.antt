use Rattle.intern.proofs.IdLemmas.{known_grows, names_grows}
use Rattle.intern.proofs.laws.an_id_names_its_row_for_good.Goals as goal

pub returns-clause-known : goal.returns-clause-known
returns-clause-known c = known_grows

pub returns-clause-names : goal.returns-clause-names
returns-clause-names c = names_grows
