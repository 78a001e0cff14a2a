-- What names mean in a program, or the findings if they are wrong.
use Rattle.std.specs.Prelude.{◌≡◌, ◌≢◌, ◌↔◌, List, [], map, All, Contains}
use Rattle.source.specs.declared.finding.Finding.{Finding}
use Rattle.source.specs.Findings.{FindingModel, finding_model}
use Rattle.tree.specs.Trees.{contracts_of}
use Rattle.program.specs.Parts.{AreApart, IsWhole, contract_model, contract_parts}
use Rattle.program.specs.declared.contract.Resolved.{Resolved}
use Rattle.declarations.specs.Program.{ProgramText}
use Rattle.declarations.specs.Resolution.{resolved_contracts}
use Rattle.declarations.specs.declared.mistake.Mistake.{Mistake}
use Rattle.names.specs.Findings.{program_findings, program_mistakes}
use Rattle.names.specs.declared.fault.NameFaults.{NameFaults}
use Rattle.names.specs.declared.fault.NameFaults.TheVariants as faults

-- there are no mistakes in the names and types of a program, and these are its contracts; no two states and no two
-- messages share a number
pub record IsResolution (p : ProgramText) (resolved : Resolved) : Type 0 where
  pub clean : program_mistakes p ≡ []
  pub contracts : map contract_model resolved.contracts.items ≡ resolved_contracts p.text (contracts_of p.items)
  pub apart : AreApart (map contract_parts resolved.contracts.items)
  pub whole : All (λ c. IsWhole (contract_parts c)) resolved.contracts.items

-- these are all mistakes in names and types, at least one
pub record AreMistakes (p : ProgramText) (mistakes : List Mistake) : Type 0 where
  pub some : mistakes ≢ []
  pub all : mistakes ≡ program_mistakes p

-- these are all findings about names and types, at least one
pub record AreAll (p : ProgramText) (found : List Finding) : Type 0 where
  pub some : found ≢ []
  pub each : (f : FindingModel) → Contains (map finding_model found) f ↔ Contains (program_findings p) f

-- the fault has all findings, or is out of memory
abbrev pub TellsMistakes : ProgramText → NameFaults → Type 0
TellsMistakes p (faults.Found found) = AreAll p found.items
TellsMistakes p faults.Memory = Unit {0}
