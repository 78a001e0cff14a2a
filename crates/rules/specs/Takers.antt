-- What takes something away from a variable for good: a message that is sent along an endpoint, or a field of a block.
use Rattle.std.specs.Prelude.{ℕ, List, [], ◌∷◌}
use Rattle.program.specs.declared.number.VarId.{VarId}
use Rattle.rules.specs.declared.breach.Reason.{Reason}
use Rattle.rules.specs.declared.breach.Reason.TheVariants.{WrongFor, WrongForField}
use Rattle.rules.specs.declared.payloads.Taker.{Taker}
use Rattle.rules.specs.declared.payloads.Taker.TheVariants.{Message, Field}

-- the variables that the taker cannot take: a message does not take its own endpoint with it
abbrev pub besides : Taker → List ℕ
besides (Message endpoint message) = endpoint.variable.0 ∷ []
besides Field = []

-- the reason for an endpoint in a wrong state for the taker
abbrev pub wrong_in : Taker → VarId → Reason
wrong_in (Message endpoint message) v = WrongFor v endpoint.variable message
wrong_in Field v = WrongForField v
