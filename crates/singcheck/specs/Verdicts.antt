-- For proofs within the crate: the verdicts of methods.
use Rattle.std.specs.Prelude.{◌≡◌, ◌++◌, ℕ, List, Contains, Ok, Err, Result, map}
use Rattle.source.specs.Findings.{FindingModel, finding_model}
use Rattle.source.specs.declared.finding.Finding.{Finding}
use Rattle.contracts.specs.Conditions.{AreExactly}
use Rattle.program.specs.Programs.{ProgramModel}
use Rattle.rules.specs.Programs.{model_of}
use Rattle.rules.specs.declared.lowered.Program.{Program}
use Rattle.analyse.specs.VerdictParts.{findings_of}
use Rattle.analyse.specs.Verdicts.{IsFoundIn, IsMethodVerdict}
use Rattle.analyse.specs.declared.verdict.Verdict.{Verdict}
use Rattle.shelf.specs.Shelves.{IsOf, verdict_of}
use Rattle.shelf.specs.declared.receipt.Receipt.{Receipt}
use Rattle.shelf.specs.declared.shelf.Shelf.{Shelf}

-- the receipt is of the shelf and names the verdict of a method
pub record IsPut (p : Program) (shelf : Shelf) (n : ℕ) (receipt : Receipt) : Type 0 where
  pub of_shelf : IsOf receipt shelf
  pub found : IsMethodVerdict (model_of p) n (map finding_model (findings_of (verdict_of receipt)))

-- the verdict of a method was put on the shelf, or came back because there was no room for it
abbrev pub HasVerdict : Program → Shelf → ℕ → Result Receipt Verdict → Type 0
HasVerdict p shelf n (Ok receipt) = IsPut p shelf n receipt
HasVerdict p shelf n (Err verdict) = IsMethodVerdict (model_of p) n (map finding_model (findings_of verdict))

-- all findings of a method are added
pub record AddsVerdict (p : ProgramModel) (n : ℕ) (old new : List Finding) : Type 0 where
  pub more : List FindingModel
  pub exactly : AreExactly (IsFoundIn p n) more
  pub added : map finding_model new ≡ map finding_model old ++ more

-- a finding of one of these methods
abbrev pub IsWrongAmong : ProgramModel → List ℕ → FindingModel → Type 0
IsWrongAmong p methods f = (n : ℕ) × Contains methods n × IsFoundIn p n f

-- these are all findings of these methods
abbrev pub AreOfMethods : ProgramModel → List ℕ → List FindingModel → Type 0
AreOfMethods p methods found = AreExactly (IsWrongAmong p methods) found
