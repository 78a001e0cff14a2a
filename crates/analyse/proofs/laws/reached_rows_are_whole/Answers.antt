use Rattle.rows.specs.Rows.{IsRowOf}
use Rattle.rules.specs.Steps.{entry_of, outcome}
use Rattle.analyse.proofs.WholeLemmas.{reached_keeps}
use Rattle.analyse.proofs.laws.reached_rows_are_whole.Goals as goal

pub returns : goal.returns
returns c = λ methods n m pair there reached.
    let law = c.a_leaf_for_each_variable.ensures in
    reached_keeps (outcome methods n) (λ p. IsRowOf m p.1) (λ x to is goes. law.step methods n m x to there is goes) (entry_of methods n) pair (law.entry methods n m there) reached
