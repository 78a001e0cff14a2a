use Rattle.singcheck.proofs.one_answer.OneCheckLemmas.{one_seen, told_of}
use Rattle.singcheck.proofs.laws.one_program.Goals as goal

pub returns-clause-one : goal.returns-clause-one
returns-clause-one c = one_seen (record { tokens = c.one_cutting.ensures.tokens; fault = c.one_fault.ensures.one; none = c.one_fault.ensures.none; trees = c.one_tree_a_spelling.ensures })

pub returns-clause-told : goal.returns-clause-told
returns-clause-told c = told_of (record { tokens = c.one_cutting.ensures.tokens; fault = c.one_fault.ensures.one; none = c.one_fault.ensures.none; trees = c.one_tree_a_spelling.ensures })
