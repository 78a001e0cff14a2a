use Rattle.singcheck.proofs.one_answer.OneCheckLemmas.{before_or_methods}
use Rattle.singcheck.proofs.laws.findings_or_program.Goals as goal

pub returns : goal.returns
returns c = before_or_methods (record { tokens = c.one_cutting.ensures.tokens; fault = c.one_fault.ensures.one; none = c.one_fault.ensures.none; trees = c.one_tree_a_spelling.ensures })
