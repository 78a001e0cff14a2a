-- From stage to stage of a check.
use Rattle.std.proofs.Common.{◌≡◌, ℕ, List, [], ◌∷◌, map, refl, sym, ap, subst}
use Rattle.std.specs.Prelude.{◌≢◌, All, length, Contains, Result, Ok, Err, IfOk}
use Rattle.source.specs.Findings.{FindingModel, finding_model}
use Rattle.source.specs.declared.finding.Finding.{Finding}
use Rattle.source.specs.declared.fault.Memory.{Memory}
use Rattle.tree.specs.Trees.{ItemTree}
use Rattle.contracts.specs.Conditions.{AreExactly, IsSound}
use Rattle.program.specs.Programs.{ProgramModel}
use Rattle.devices.specs.declared.fault.Status.{Status}
use Rattle.devices.specs.declared.fault.Status.TheVariants.{Empty, Found}
use Rattle.singcheck.specs.Checks.{AreCheckFindings, OfMethods, Checks, HasProgram, IsWrong}
use Rattle.singcheck.specs.Lines.{clear_line}
use Rattle.singcheck.specs.Fronts.{HasCleanNames}
use Rattle.singcheck.specs.Reports.{IsReport}
use Rattle.singcheck.specs.declared.report.Report.{Report}
use Rattle.singcheck.proofs.JudgeLemmas.{none_of}

-- the report of the findings of a text is what `check` returns for it
pub reported_is : (text bytes : List ℕ) (status : Status) (found : List FindingModel) → AreCheckFindings text found → IsReport found bytes → status ≡ Found → Checks text bytes status
reported_is text bytes status found are told is = subst (Checks text bytes) (sym is) (record { found = found; are = are; told = told })

-- if its contracts are sound, this is the program of the text
abbrev pub has_program : (text : List ℕ) (items : List ItemTree) (p : ProgramModel) → HasCleanNames text items p → All (λ c. IsSound c.parts) p.contracts → HasProgram text p
has_program text items p names sound = record {
  resolved = record { items = items; parsed = names.parsed; clean = names.clean; are = ap (λ (q : ProgramModel). q.contracts) names.is };
  sound = sound;
  is = names.is;
}

-- the findings of its methods
pub misowned : (text : List ℕ) (p : ProgramModel) (found : List Finding) → HasProgram text p → found ≢ [] → AreExactly (IsWrong p) (map finding_model found) → AreCheckFindings text (map finding_model found)
misowned text p found has some are = OfMethods (record { program = p; has = has; some = none_mapped found some; are = are })
  where
    none_mapped : (found : List Finding) → found ≢ [] → map finding_model found ≢ []
    none_mapped [] h = λ _. h refl
    none_mapped (x ∷ xs) h = λ e. absurd (cc)

-- the report of the findings of its methods is correct for each text with this program
pub reported_methods : (p : ProgramModel) (found : List Finding) → found ≢ [] → AreExactly (IsWrong p) (map finding_model found) → (result : Result Report Memory) → IfOk result (λ r. IsReport (map finding_model found) r.bytes.items)
    → IfOk result (λ r. r.status ≡ Found) → IfOk result (λ r. (text : List ℕ) → HasProgram text p → Checks text r.bytes.items r.status)
reported_methods p found some are (Ok r) told is = λ text has. reported_is text r.bytes.items r.status (map finding_model found) (misowned text p found has some are) told is
reported_methods p found some are (Err fault) told is = tt

-- nothing is found in its methods
pub clear_is : (text bytes : List ℕ) (p : ProgramModel) (found : List Finding) → HasProgram text p → found ≡ [] → AreExactly (IsWrong p) (map finding_model found) → bytes ≡ clear_line (length p.contracts) (length p.methods) → Checks text bytes Empty
clear_is text bytes p found has none are is = record {
  program = p;
  has = has;
  none = λ f w. none_of f (subst (λ l. Contains (map finding_model l) f) none (are.all f w));
  are = is;
}

-- the result of `clear` is correct for each text with this program
pub clear_ok : (p : ProgramModel) (found : List Finding) → found ≡ [] → AreExactly (IsWrong p) (map finding_model found) → (result : Result Report Memory) → IfOk result (λ r. r.bytes.items ≡ clear_line (length p.contracts) (length p.methods)) → IfOk result (λ r. r.status ≡ Empty)
    → IfOk result (λ r. (text : List ℕ) → HasProgram text p → Checks text r.bytes.items r.status)
clear_ok p found none are (Ok r) bytes is = λ text has. subst (Checks text r.bytes.items) (sym is) (clear_is text r.bytes.items p found has none are bytes)
clear_ok p found none are (Err fault) bytes is = tt
