-- What `check` returns for a text. Methods are analysed only if there are no findings in the text, its tokens, its names and its contracts.
use Rattle.std.specs.Prelude.{◌≡◌, ◌≢◌, ◌<◌, ℕ, List, [], length, All}
use Rattle.source.specs.Findings.{FindingModel}
use Rattle.contracts.specs.Conditions.{AreExactly, IsSound}
use Rattle.program.specs.Programs.{ProgramModel}
use Rattle.wellformed.specs.Told.{program_told}
use Rattle.analyse.specs.Verdicts.{IsFoundIn}
use Rattle.devices.specs.declared.fault.Status.{Status}
use Rattle.devices.specs.declared.fault.Status.TheVariants.{Empty, Found}
use Rattle.singcheck.specs.Answers.{AreFindings, IsResolved}
use Rattle.singcheck.specs.Lines.{clear_line}
use Rattle.singcheck.specs.Reports.{IsReportOf}

-- there are no findings before the methods, and this is the program that the text yields, with each name resolved to a number
pub record HasProgram (text : List ℕ) (p : ProgramModel) : Type 0 where
  pub resolved : IsResolved text p.contracts
  pub sound : All (λ c. IsSound c.parts) p.contracts
  pub is : p ≡ program_told (record { text = text; items = resolved.items })

-- this is a finding of one of the methods
abbrev pub IsWrong : ProgramModel → FindingModel → Type 0
IsWrong p f = (n : ℕ) × (n < length p.methods) × IsFoundIn p n f

-- there are findings in the methods of the text, and these are all of them
pub record IsMisowned (text : List ℕ) (found : List FindingModel) : Type 0 where
  pub program : ProgramModel
  pub has : HasProgram text program
  pub some : found ≢ []
  pub are : AreExactly (IsWrong program) found

-- these are the findings of the first stage of the text that has any; its methods are the last stage
pub data AreCheckFindings (text : List ℕ) (found : List FindingModel) : Type 0 where
  Before : AreFindings text found → AreCheckFindings text found
  OfMethods : IsMisowned text found → AreCheckFindings text found

-- the text has no findings, and the bytes say how many contracts and methods it has
pub record IsClear (text bytes : List ℕ) : Type 0 where
  pub program : ProgramModel
  pub has : HasProgram text program
  pub none : (f : FindingModel) → IsWrong program f → ⊥
  pub are : bytes ≡ clear_line (length program.contracts) (length program.methods)

-- these bytes with this status are what `check` returns for the text: `Empty` with the line `ok`, or `Found` with the report
abbrev pub Checks : List ℕ → List ℕ → Status → Type 0
Checks text bytes Empty = IsClear text bytes
Checks text bytes Found = IsReportOf (AreCheckFindings text) bytes
