use Rattle.rules.proofs.ArgumentLemmas.{Looked}
use Rattle.rules.proofs.repeats.first_again.Given as goal

abbrev pub invariant-loop-argument : goal.invariant-loop-argument
invariant-loop-argument l = Looked l.earlier l.arguments l.argument-index
