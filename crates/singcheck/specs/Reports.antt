-- The report of findings.
use Rattle.std.specs.Prelude.{◌≡◌, ℕ, List, ◌++◌, length, Contains}
use Rattle.std.specs.List.{flat_map}
use Rattle.std.specs.List.Sorted.{IsStrictlySortedBy}
use Rattle.source.specs.Findings.{FindingModel}
use Rattle.contracts.specs.Conditions.{AreExactly}
use Rattle.reports.specs.Orders.{report_cmp}
use Rattle.singcheck.specs.Lines.{finding_line, count_line}

-- a line for each finding, and then their number
abbrev pub report_bytes : List FindingModel → List ℕ
report_bytes listed = flat_map finding_line listed ++ count_line (length listed)

-- The bytes are the report of these findings, whatever their order and however often each occurs.
-- The report has each of them once, in the order of `report_cmp`.
pub record IsReport (findings : List FindingModel) (bytes : List ℕ) : Type 0 where
  pub listed : List FindingModel
  pub same : AreExactly (Contains findings) listed
  pub ordered : IsStrictlySortedBy report_cmp listed
  pub is : bytes ≡ report_bytes listed

-- the bytes are the report of findings that meet this condition
pub record IsReportOf (these : List FindingModel → Type 0) (bytes : List ℕ) : Type 0 where
  pub found : List FindingModel
  pub are : these found
  pub told : IsReport found bytes
