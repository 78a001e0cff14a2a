use Rattle.rules.proofs.TypeLemmas.{Listed}
use Rattle.rules.proofs.lowered.types_of.Given as goal

abbrev pub invariant-loop-variable : goal.invariant-loop-variable
invariant-loop-variable l = Listed l.method.variables.items l.variable-index l.types.items
