use Rattle.intern.proofs.RuleLemmas.{no_word}
use Rattle.intern.proofs.laws.an_empty_table_has_no_word.Goals as goal

pub returns : goal.returns
returns c = λ slots s seat rule at empty. no_word slots s rule seat.inner.id seat.inner.me.0 at empty.only empty.blank
