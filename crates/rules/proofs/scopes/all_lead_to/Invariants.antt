use Rattle.std.proofs.Common.{ℕ, ◌<◌}
use Rattle.program.specs.Methods.{method_model}
use Rattle.program.specs.Scopes.{outer_of}
use Rattle.rules.specs.Checks.{LeadsTo}
use Rattle.rules.proofs.scopes.all_lead_to.Given as goal

abbrev pub invariant-loop-number : goal.invariant-loop-number
invariant-loop-number l = (v : ℕ) → v < l.number → LeadsTo l.first.0 v (outer_of (method_model l.method).variables (record { 0 = v }))
