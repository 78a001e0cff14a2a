-- Why an empty report is safe.
use Rattle.std.proofs.Common.{◌≡◌, ℕ, List, [], map, take, Option, Some, None, refl, sym, subst, inl, ◌∙◌}
use Rattle.std.specs.Prelude.{Contains, Err, IfOk, IfSome, Ok, Result}
use Rattle.source.specs.Findings.{FindingModel, finding_model}
use Rattle.source.specs.declared.fault.Memory.{Memory}
use Rattle.source.specs.declared.finding.Finding.{Finding}
use Rattle.source.specs.declared.lexer.TheConstants.{MAX_TEXT}
use Rattle.contracts.specs.Conditions.{AreExactly}
use Rattle.tree.specs.Trees.{ItemTree}
use Rattle.program.specs.Programs.{ProgramModel}
use Rattle.wellformed.specs.Told.{program_told}
use Rattle.analyse.specs.Verdicts.{IsFoundIn, IsMethodVerdict, place_of_method, too_many_pairs}
use Rattle.sound.specs.Premises.{NothingIsFound}
use Rattle.devices.specs.declared.fault.Status.{Status}
use Rattle.devices.specs.declared.fault.Status.TheVariants.{Empty, Found}
use Rattle.devices.specs.declared.reading.TheConstants.{MAX_READ}
use Rattle.singcheck.specs.Answers.{IsProgram}
use Rattle.singcheck.specs.Checks.{IsWrong}
use Rattle.singcheck.specs.Entered.{AreCleanSafe}
use Rattle.singcheck.specs.Safety.{IsSafeText, RunsAreSafe}
use Rattle.singcheck.specs.declared.report.Report.{Report}
use Rattle.singcheck.proofs.JudgeLemmas.{none_of}
use Rattle.singcheck.proofs.LongLemmas.{no_program, of_front}

-- if a method has no finding, its verdict is empty
pub empty_verdict : (p : ProgramModel) (n : ℕ) → ((f : FindingModel) → IsFoundIn p n f → ⊥) → IsMethodVerdict p n []
empty_verdict p n none = record {
  exactly = λ f. (λ h. absurd (none_of f h), λ w. absurd (none f w));
  once = λ many. absurd (none (too_many_pairs (place_of_method p n)) (inl (many, refl)));
}

-- if a program has no finding, no method has one
pub nothing_found : (p : ProgramModel) (found : List Finding) → found ≡ [] → AreExactly (IsWrong p) (map finding_model found) → NothingIsFound p
nothing_found p found none are = λ n lt. empty_verdict p n (λ f w. none_of f (subst (λ l. Contains (map finding_model l) f) none (are.all f (n, lt, w))))

-- a text whose program has no finding is safe
pub safe_text : (text : List ℕ) (p : ProgramModel)
    → ((items : List ItemTree) → IsProgram text items → p ≡ program_told (record { text = text; items = items }))
    → NothingIsFound p → AreCleanSafe p → IsSafeText text
safe_text text p told nothing safe = λ items parsed. subst RunsAreSafe (told items parsed) (record {
  each = λ bound bounds n w entry run. safe bound bounds nothing n w entry run;
})

-- what is known of the bytes that are read holds of the text
pub safe_front : (status : Status) (text : List ℕ) → (status ≡ Empty → IsSafeText (take MAX_READ text)) → status ≡ Empty → IsSafeText text
safe_front status text told = of_front (λ t. status ≡ Empty → IsSafeText t) MAX_TEXT MAX_READ refl
    (λ a b x y front e items parsed. no_program b y parsed.tokens parsed.lexed) text told

pub safe_read : (a : Option (List ℕ)) (text : List ℕ) (status : Status) → IfSome a (λ xs. text ≡ take MAX_READ xs) → (status ≡ Empty → IsSafeText text) → IfSome a (λ xs. status ≡ Empty → IsSafeText xs)
safe_read None text status is told = tt
safe_read (Some x) text status is told = safe_front status x (subst (λ t. status ≡ Empty → IsSafeText t) is told)

-- a report of findings is not empty
pub found_unsafe : (safe : Type 0) (result : Result Report Memory) → IfOk result (λ r. r.status ≡ Found) → IfOk result (λ r. r.status ≡ Empty → safe)
found_unsafe safe (Ok r) is = λ e. absurd (apart (sym is ∙ e))
  where
    apart : Found ≡ Empty → ⊥
    apart e = cc
found_unsafe safe (Err fault) is = tt
