use Rattle.std.proofs.Common.{◌≡◌, drop, map}
use Rattle.rows.specs.Rows.{row_model}
use Rattle.rules.specs.Arguments.{after_claims, payload}
use Rattle.rules.proofs.payloads.claim_payloads.Given as goal

abbrev pub invariant-loop-mention : goal.invariant-loop-mention
invariant-loop-mention l = after_claims (row_model l.row) (map payload (drop l.mention-index l.payloads)) ≡ after_claims (row_model l.fn.row) (map payload l.payloads)
