-- The variables that a finding is about.
use Rattle.std.specs.Prelude.{ℕ, List, [], ◌∷◌, Option, Some, map}
use Rattle.flow.specs.Cases.{first_mentions}
use Rattle.flow.specs.Graphs.{Instruction, Switch}
use Rattle.rules.specs.declared.breach.Reason.{Reason}
use Rattle.rules.specs.declared.breach.Reason.TheVariants.{NotOwned, NotSent, WrongFor, WrongForCall, NotCovered, NothingToReceive}
use Rattle.rules.specs.declared.breach.Reason.TheVariants.{Overwritten, StillOwned, NotBack, Lent, Twice, WrongForResult, NoResult}
use Rattle.rules.specs.declared.breach.Reason.TheVariants.{WrongForField}

-- the endpoints of a switch
abbrev pub endpoints_at : Option Instruction → List ℕ
endpoints_at (Some (Switch place cases)) = map (λ e. e.variable.0) (first_mentions [] cases)
endpoints_at _ = []

-- the variables that the reason names; for a switch with nothing to receive, its endpoints
abbrev pub variables_of_reason : Reason → Option Instruction → List ℕ
variables_of_reason (NotOwned v) at = v.0 ∷ []
variables_of_reason (NotSent e message) at = e.0 ∷ []
variables_of_reason (WrongFor v e message) at = v.0 ∷ e.0 ∷ []
variables_of_reason (WrongForCall v) at = v.0 ∷ []
variables_of_reason (NotCovered e message) at = e.0 ∷ []
variables_of_reason NothingToReceive at = endpoints_at at
variables_of_reason (Overwritten v) at = v.0 ∷ []
variables_of_reason (StillOwned v) at = v.0 ∷ []
variables_of_reason (NotBack v) at = v.0 ∷ []
variables_of_reason (Lent v) at = v.0 ∷ []
variables_of_reason (Twice v) at = v.0 ∷ []
variables_of_reason (WrongForResult v) at = v.0 ∷ []
variables_of_reason NoResult at = []
variables_of_reason (WrongForField v) at = v.0 ∷ []
