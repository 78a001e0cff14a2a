use Rattle.std.proofs.Common.{◌≡◌, drop}
use Rattle.rows.specs.Rows.{row_model}
use Rattle.rules.specs.Arguments.{after_claims}
use Rattle.rules.proofs.arguments.claim_all.Given as goal

abbrev pub invariant-loop-argument : goal.invariant-loop-argument
invariant-loop-argument l = after_claims (row_model l.row) (drop l.argument-index l.arguments) ≡ after_claims (row_model l.fn.row) l.arguments
