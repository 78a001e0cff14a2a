use Rattle.tree.specs.Trees.{program_tree}
use Rattle.singcheck.proofs.RemarkLemmas.{Remarked}
use Rattle.singcheck.proofs.remarking.explain_names.Given as goal

abbrev pub invariant-loop-number : goal.invariant-loop-number
invariant-loop-number l = Remarked l.named (record { text = l.text; items = program_tree l.tree }) l.mistakes l.number l.found.items
