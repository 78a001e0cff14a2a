-- Reasons in numbers, and their order.
use Rattle.std.specs.Prelude.{ℕ, List, [], ◌∷◌}
use Rattle.std.specs.Cmp.Lexicographic.{slice_cmp}
use Rattle.std.specs.Ordering.{nat_cmp, on}
use Rattle.std.specs.declared.cmp.Ordering.{Ordering}
use Rattle.rules.specs.declared.breach.Reason.{Reason}
use Rattle.rules.specs.declared.breach.Reason.TheVariants.{NotOwned, NotSent, WrongFor, WrongForCall, NotCovered, NothingToReceive}
use Rattle.rules.specs.declared.breach.Reason.TheVariants.{Overwritten, StillOwned, NotBack, Lent, Twice, WrongForResult, NoResult}
use Rattle.rules.specs.declared.breach.Reason.TheVariants.{WrongForField}

-- the numbers of the check, the variable, the endpoint and the message, with 0 for what the reason does not name
abbrev pub numbers : Reason → List ℕ
numbers (NotOwned variable) = 1 ∷ variable.0 ∷ 0 ∷ 0 ∷ []
numbers (NotSent endpoint message) = 2 ∷ 0 ∷ endpoint.0 ∷ message.0 ∷ []
numbers (WrongFor variable endpoint message) = 3 ∷ variable.0 ∷ endpoint.0 ∷ message.0 ∷ []
numbers (WrongForCall variable) = 4 ∷ variable.0 ∷ 0 ∷ 0 ∷ []
numbers (NotCovered endpoint message) = 5 ∷ 0 ∷ endpoint.0 ∷ message.0 ∷ []
numbers NothingToReceive = 6 ∷ 0 ∷ 0 ∷ 0 ∷ []
numbers (Overwritten variable) = 7 ∷ variable.0 ∷ 0 ∷ 0 ∷ []
numbers (StillOwned variable) = 8 ∷ variable.0 ∷ 0 ∷ 0 ∷ []
numbers (NotBack variable) = 9 ∷ variable.0 ∷ 0 ∷ 0 ∷ []
numbers (Lent variable) = 10 ∷ variable.0 ∷ 0 ∷ 0 ∷ []
numbers (Twice variable) = 11 ∷ variable.0 ∷ 0 ∷ 0 ∷ []
numbers (WrongForResult variable) = 12 ∷ variable.0 ∷ 0 ∷ 0 ∷ []
numbers NoResult = 13 ∷ 0 ∷ 0 ∷ 0 ∷ []
numbers (WrongForField variable) = 14 ∷ variable.0 ∷ 0 ∷ 0 ∷ []

-- the order of reasons: by these numbers
abbrev pub reason_cmp : Reason → Reason → Ordering
reason_cmp = on numbers (slice_cmp nat_cmp)
