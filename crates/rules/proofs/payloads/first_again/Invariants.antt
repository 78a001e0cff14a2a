use Rattle.rules.specs.Takers.{besides}
use Rattle.rules.proofs.PayloadLemmas.{Taken}
use Rattle.rules.proofs.payloads.first_again.Given as goal

abbrev pub invariant-loop-number : goal.invariant-loop-number
invariant-loop-number l = Taken (besides l.taker) l.payloads l.number
