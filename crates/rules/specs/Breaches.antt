-- The finding of each breach.
use Rattle.std.specs.Prelude.{ℕ, List, ◌++◌, codes, slice_get}
use Rattle.std.specs.Option.{option_map_or}
use Rattle.std.specs.Str.Lossy.{utf8_lossy}
use Rattle.source.specs.Findings.{FindingModel}
use Rattle.source.specs.declared.finding.Code.{Code}
use Rattle.source.specs.declared.finding.Code.TheVariants.{A01, A02, A03, A04, A05, A06, A07, A08, A09, A10, A11, A12, A13, A15}
use Rattle.program.specs.Methods.{MethodModel}
use Rattle.program.specs.Programs.{ProgramModel}
use Rattle.program.specs.declared.number.MessageId.{MessageId}
use Rattle.program.specs.declared.number.VarId.{VarId}
use Rattle.rules.specs.Endpoints.{type_of, message_name}
use Rattle.rules.specs.Mentions.{name_of}
use Rattle.rules.specs.declared.breach.Breach.{Breach}
use Rattle.rules.specs.declared.breach.Reason.{Reason}
use Rattle.rules.specs.declared.breach.Reason.TheVariants.{NotOwned, NotSent, WrongFor, WrongForCall, NotCovered, NothingToReceive}
use Rattle.rules.specs.declared.breach.Reason.TheVariants.{Overwritten, StillOwned, NotBack, Lent, Twice, WrongForResult, NoResult}
use Rattle.rules.specs.declared.breach.Reason.TheVariants.{WrongForField}

module _ (p : ProgramModel) (m : MethodModel) where
  -- the name of a message of the contract of an endpoint
  abbrev pub name_along : VarId → MessageId → List ℕ
  name_along endpoint message = message_name p (type_of m endpoint.0) message.0

  -- the name of a variable, as it is printed
  abbrev pub variable_text : VarId → List ℕ
  variable_text variable = utf8_lossy (name_of m variable.0)

  -- the code and the text of the finding for each reason
  abbrev pub words_for : Reason → Code × List ℕ
  words_for (NotOwned variable) = (A01, variable_text variable ++ codes " not owned")
  words_for (NotSent endpoint message) = (A02, utf8_lossy (name_along endpoint message) ++ codes " not sent here")
  words_for (WrongFor variable endpoint message) =
      (A03, variable_text variable ++ (codes " in a wrong state for " ++ utf8_lossy (name_along endpoint message)))
  words_for (WrongForCall variable) = (A04, variable_text variable ++ codes " in a wrong state for the call")
  words_for (NotCovered endpoint message) =
      (A05, variable_text endpoint ++ (codes "." ++ (utf8_lossy (name_along endpoint message) ++ codes " not covered")))
  words_for NothingToReceive = (A06, codes "nothing to receive")
  words_for (Overwritten variable) = (A07, variable_text variable ++ codes " overwritten")
  words_for (StillOwned variable) = (A08, variable_text variable ++ codes " still owned")
  words_for (NotBack variable) = (A09, variable_text variable ++ codes " not back in its state")
  words_for (Lent variable) = (A10, variable_text variable ++ codes " is lent")
  words_for (Twice variable) = (A11, variable_text variable ++ codes " twice")
  words_for (WrongForResult variable) = (A12, variable_text variable ++ codes " in a wrong state for the result")
  words_for NoResult = (A13, codes "no result")
  words_for (WrongForField variable) = (A15, variable_text variable ++ codes " in a wrong state for the field")

  -- the finding of a breach
  abbrev pub breach_model : Breach → FindingModel
  breach_model breach = let words = words_for breach.reason in record { place = breach.place; code = words.0; text = words.1 }

-- the finding of a breach in the method with this number; callers ask only for methods of the program
abbrev pub breach_in : ProgramModel → ℕ → Breach → FindingModel
breach_in p method breach = option_map_or (λ m. breach_model p m breach) (slice_get p.methods method)
    (record { place = breach.place; code = A13; text = codes "no result" })
