-- From why a text has no program to what is printed.
use Rattle.std.proofs.Common.{◌≡◌, ℕ, List, map, subst, sym}
use Rattle.std.specs.Prelude.{Err, IfOk, Ok, Result}
use Rattle.source.specs.Findings.{FindingModel}
use Rattle.source.specs.declared.fault.Memory.{Memory}
use Rattle.tree.specs.Trees.{program_tree}
use Rattle.tree.specs.declared.item.Tree.{Tree}
use Rattle.program.specs.Parts.{ContractModel, contract_model}
use Rattle.program.specs.declared.contract.Resolved.{Resolved}
use Rattle.devices.specs.declared.fault.Status.TheVariants.{Found}
use Rattle.singcheck.specs.Answers.{AreFindings, Answers, IsResolved}
use Rattle.singcheck.specs.Checks.{Before, Checks}
use Rattle.singcheck.specs.Fronts.{IsResolvedAs}
use Rattle.singcheck.specs.Reports.{IsReport, IsReportOf}
use Rattle.singcheck.specs.declared.report.Report.{Report}

pub resolved_as : (text : List ℕ) (resolved : Resolved) (tree : Tree) → IsResolvedAs text resolved tree
    → IsResolved text (map contract_model resolved.contracts.items)
resolved_as text resolved tree has =
    record { items = program_tree tree; parsed = has.parsed.parsed; clean = has.is.clean; are = has.is.contracts }

-- the report of a text that has no program is what `bounds` prints
pub answers_refused : (text : List ℕ) (result : Result Report Memory) → IfOk result (λ r. IsReportOf (AreFindings text) r.bytes.items)
    → IfOk result (λ r. r.status ≡ Found) → IfOk result (λ r. Answers text r.bytes.items r.status)
answers_refused text (Ok r) told is = subst (Answers text r.bytes.items) (sym is) told
answers_refused text (Err fault) told is = tt

-- and what `check` returns
pub checks_refused : (text : List ℕ) (result : Result Report Memory) → IfOk result (λ r. IsReportOf (AreFindings text) r.bytes.items)
    → IfOk result (λ r. r.status ≡ Found) → IfOk result (λ r. Checks text r.bytes.items r.status)
checks_refused text (Ok r) told is =
    subst (Checks text r.bytes.items) (sym is) (record { found = told.found; are = Before told.are; told = told.told })
checks_refused text (Err fault) told is = tt

-- the report of the findings of contracts, for each text that has these
pub answers_found : (contracts : List ContractModel) (found : List FindingModel)
    → ((text : List ℕ) → IsResolved text contracts → AreFindings text found) → (result : Result Report Memory)
    → IfOk result (λ r. IsReport found r.bytes.items) → IfOk result (λ r. r.status ≡ Found)
    → IfOk result (λ r. (text : List ℕ) → IsResolved text contracts → Answers text r.bytes.items r.status)
answers_found contracts found are (Ok r) told is =
    λ text resolved. subst (Answers text r.bytes.items) (sym is) (record { found = found; are = are text resolved; told = told })
answers_found contracts found are (Err fault) told is = tt
