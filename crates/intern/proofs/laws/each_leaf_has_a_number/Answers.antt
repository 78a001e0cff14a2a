use Rattle.std.proofs.Common.{arith}
use Rattle.intern.proofs.CodeLemmas.{code_injective, numbered_below}
use Rattle.intern.proofs.laws.each_leaf_has_a_number.Goals as goal

pub returns-clause-own : goal.returns-clause-own
returns-clause-own c = code_injective

pub returns-clause-room : goal.returns-clause-room
returns-clause-room c = λ leaf numbered. let below = numbered_below leaf numbered in omega arith
