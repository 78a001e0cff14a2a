use Rattle.singcheck.proofs.one_answer.OneCheckLemmas.{one_answer_of, one_status_of}
use Rattle.singcheck.proofs.laws.one_check.Goals as goal

pub returns-clause-bytes : goal.returns-clause-bytes
returns-clause-bytes c = one_answer_of (record { tokens = c.one_cutting.ensures.tokens; fault = c.one_fault.ensures.one; none = c.one_fault.ensures.none; trees = c.one_tree_a_spelling.ensures })

pub returns-clause-status : goal.returns-clause-status
returns-clause-status c = one_status_of (record { tokens = c.one_cutting.ensures.tokens; fault = c.one_fault.ensures.one; none = c.one_fault.ensures.none; trees = c.one_tree_a_spelling.ensures })
