-- What `why` returns for a text: the report of `check`, with lines that explain the findings.
use Rattle.std.specs.Prelude.{◌≡◌, ◌≢◌, ◌<◌, ◌⊎◌, ◌++◌, ℕ, List, [], Option, length, map, All, Contains}
use Rattle.std.specs.List.{flat_map}
use Rattle.std.specs.List.Sorted.{IsStrictlySortedBy}
use Rattle.contracts.specs.Conditions.{AreExactly, IsFlaw}
use Rattle.program.specs.Parts.{ContractModel}
use Rattle.program.specs.Programs.{ProgramModel}
use Rattle.reports.specs.Orders.{report_cmp}
use Rattle.source.specs.Findings.{FindingModel}
use Rattle.source.specs.declared.place.Place.{Place}
use Rattle.contract_traces.specs.Shown.{IsShown}
use Rattle.explanations.specs.Explained.{ExplainedModel}
use Rattle.traces.specs.Explained.{IsExplainedIf}
use Rattle.devices.specs.declared.fault.Status.{Status}
use Rattle.devices.specs.declared.fault.Status.TheVariants.{Empty, Found}
use Rattle.singcheck.specs.Answers.{AreFindings, IsResolved}
use Rattle.singcheck.specs.Checks.{HasProgram, IsClear, IsWrong}
use Rattle.singcheck.specs.Remarked.{HasFault, HasMistake}
use Rattle.singcheck.specs.Unexpected.{IsUnexpected}
use Rattle.singcheck.specs.Lines.{count_line, finding_line, trace_line}

-- a finding of one of the methods, with its trace if no other place is named
abbrev pub IsExplainedIn : Option Place → ProgramModel → ExplainedModel → Type 0
IsExplainedIn named p e = (n : ℕ) × (n < length p.methods) × IsExplainedIf named p n e

-- a line for the finding, and its trace under it
abbrev pub explained_lines : ExplainedModel → List ℕ
explained_lines e = finding_line e.finding ++ flat_map trace_line e.lines

-- these lines for each finding, and then their number
abbrev pub explained_bytes : List ExplainedModel → List ℕ
explained_bytes listed = flat_map explained_lines listed ++ count_line (length listed)

-- There are findings in the methods of the text: the bytes list all of them in the order of a report, each once, with
-- their traces, or with the traces of those at the named place.
pub record AreReasons (named : Option Place) (text bytes : List ℕ) : Type 0 where
  pub program : ProgramModel
  pub has : HasProgram text program
  pub listed : List ExplainedModel
  pub some : listed ≢ []
  pub are : AreExactly (IsWrong program) (map (λ e. e.finding) listed)
  pub each : All (IsExplainedIn named program) listed
  pub ordered : IsStrictlySortedBy report_cmp (map (λ e. e.finding) listed)
  pub is : bytes ≡ explained_bytes listed

-- it is a finding of one of the contracts, and its lines are what is shown of it
pub record IsShownIn (named : Option Place) (contracts : List ContractModel) (e : ExplainedModel) : Type 0 where
  pub contract : ContractModel
  pub there : Contains contracts contract
  pub flaw : IsFlaw contract.parts e.finding
  pub shown : IsShown named contract.parts e

-- A finding before the methods: an unexpected token with the tokens that could have been there, a fault of the text or a mistake
-- in its names with its remark, or a finding of a contract with what shows it.
pub data IsExplainedFinding (named : Option Place) (text : List ℕ) (e : ExplainedModel) : Type 0 where
  ByTokens : IsUnexpected named text e → IsExplainedFinding named text e
  ByFault : HasFault named text e → IsExplainedFinding named text e
  ByMistake : HasMistake named text e → IsExplainedFinding named text e
  ByContract : (contracts : List ContractModel) → IsResolved text contracts → IsShownIn named contracts e → IsExplainedFinding named text e

-- There are findings before the methods: the bytes list all those of the first stage with findings, in the order of a
-- report, each once.
pub record IsStageExplained (named : Option Place) (text bytes : List ℕ) : Type 0 where
  pub found : List FindingModel
  pub are : AreFindings text found
  pub listed : List ExplainedModel
  pub same : AreExactly (Contains found) (map (λ e. e.finding) listed)
  pub each : All (IsExplainedFinding named text) listed
  pub ordered : IsStrictlySortedBy report_cmp (map (λ e. e.finding) listed)
  pub is : bytes ≡ explained_bytes listed

-- what `why` returns for a text, and the status
abbrev pub Explains : Option Place → List ℕ → List ℕ → Status → Type 0
Explains named text bytes Empty = IsClear text bytes
Explains named text bytes Found = IsStageExplained named text bytes ⊎ AreReasons named text bytes

-- For proofs within the crate: these are all findings of the first stage with findings, each with its lines, in no order.
pub record AreExplained (named : Option Place) (text : List ℕ) (es : List ExplainedModel) : Type 0 where
  pub are : AreFindings text (map (λ e. e.finding) es)
  pub each : All (IsExplainedFinding named text) es
