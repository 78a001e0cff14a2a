use Rattle.expected.proofs.WordLemmas.{read_back}
use Rattle.expected.proofs.laws.words_are_read_back.Goals as goal

pub returns : goal.returns
returns c = read_back
