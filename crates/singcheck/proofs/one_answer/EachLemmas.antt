-- Each text has a result: for each stage, that there is none is refuted.
use Rattle.std.proofs.Common.{◌≡◌, ℕ, ◌⊎◌, List, [], ◌∷◌, ◌++◌, refl, sym, subst, ⊎_elim, map}
use Rattle.std.specs.Prelude.{All, Contains, length, slice_get}
use Rattle.std.specs.List.{AllZip, concat}
use Rattle.std.proofs.lemmas.List.Elements.{All-head, All-tail}
use Rattle.source.specs.Faults.{IsFault}
use Rattle.source.specs.Findings.{FindingModel, fault_findings}
use Rattle.source.specs.Tokens.{AreTokens}
use Rattle.source.specs.declared.fault.TextFault.{TextFault}
use Rattle.source.specs.declared.token.Token.{Token}
use Rattle.tree.specs.Spelled.{Spells}
use Rattle.tree.specs.Programs.{program}
use Rattle.tree.specs.Trees.{ItemTree, contracts_of}
use Rattle.syntax.specs.Parsing.{IsFirstWrong}
use Rattle.program.specs.Parts.{ContractModel, IsWhole, Parts}
use Rattle.program.specs.Programs.{ProgramModel}
use Rattle.program.specs.declared.types.Side.{Side}
use Rattle.program.specs.declared.types.Side.TheVariants.{Exp, Imp}
use Rattle.declarations.specs.Mistakes.{finding_in}
use Rattle.names.specs.Findings.{program_findings, program_mistakes}
use Rattle.declarations.specs.declared.mistake.Mistake.{Mistake}
use Rattle.declarations.specs.Program.{ProgramText}
use Rattle.declarations.specs.Resolution.{resolved_contracts}
use Rattle.contracts.specs.Bounds.{IsBound, sign_to}
use Rattle.contracts.specs.Conditions as conditions
use Rattle.contracts.specs.Conditions.{AreExactly, IsSound}
use Rattle.wellformed.specs.Told.{program_told}
use Rattle.analyse.specs.Verdicts.{IsMethodVerdict}
use Rattle.devices.specs.declared.fault.Status.{Status}
use Rattle.devices.specs.declared.fault.Status.TheVariants.{Empty, Found}
use Rattle.singcheck.specs.Answers.{Answers, AreFindings, IsBoundsLine, IsBroken, IsProgram, IsResolved, OfText, OfSyntax, OfNames, OfContracts, wrong_token}
use Rattle.singcheck.specs.Checks.{Before, Checks, HasProgram, IsWrong, OfMethods}
use Rattle.singcheck.specs.Lines.{bounds_line, clear_line, ok_line}
use Rattle.singcheck.proofs.one_answer.ExactLemmas.{all_sound, broken_some, empty_or_not, nothing_so, wrong_some}
use Rattle.singcheck.proofs.one_answer.InsertLemmas.{report_there}

-- laws of the crates below: each of their stages has a result
pub record Answered : Type 0 where
  pub cut : (text : List ℕ) → ((tokens : List Token) × AreTokens text tokens) ⊎ ((fault : TextFault) × IsFault text fault)
  pub parsed : (tokens : List Token)
      → ((items : List ItemTree) → Spells program items tokens → ⊥) → ((k : ℕ) → IsFirstWrong program tokens k → ⊥) → ⊥
  pub whole : (p : ProgramText) → program_mistakes p ≡ []
      → All (λ (c : ContractModel). IsWhole c.parts) (resolved_contracts p.text (contracts_of p.items))
  pub judged : (parts : Parts) → ((found : List FindingModel) → AreExactly (conditions.IsFlaw parts) found → ⊥) → ⊥
  pub bounded : (parts : Parts) → IsWhole parts → IsSound parts → (side : Side)
      → ((n : ℕ) → IsBound parts.edges parts.first (sign_to side) n → ⊥) → ⊥
  pub verdicts : (p : ProgramModel) (n : ℕ) → ((found : List FindingModel) → IsMethodVerdict p n found → ⊥) → ⊥

-- no stage before the methods finds anything
module _ (laws : Answered) (text : List ℕ) (clean : (found : List FindingModel) → AreFindings text found → ⊥) where
  -- the text is a program
  program_some : ((items : List ItemTree) → IsProgram text items → ⊥) → ⊥
  program_some none = ⊎_elim
      (λ cut. laws.parsed cut.0
      (λ items spelled. none items (record { tokens = cut.0; lexed = cut.1; spelled = spelled }))
      (λ k wrong.
      let found = wrong_token text (slice_get cut.0 k) ∷ [] in
      clean found (OfSyntax (record { tokens = cut.0; lexed = cut.1; number = k; wrong = wrong; are = refl }))))
      (λ faulty. clean (fault_findings faulty.0) (OfText (record { fault = faulty.0; first = faulty.1; are = refl })))
      (laws.cut text)

  nothing_told : (mistakes : List Mistake) → map (finding_in text) mistakes ≡ [] → mistakes ≡ []
  nothing_told [] none = refl
  nothing_told (m ∷ mistakes) none = cc

  -- there are no mistakes in its names
  names_clean : (items : List ItemTree) → IsProgram text items → program_mistakes (record { text = text; items = items }) ≡ []
  names_clean items parsed =
      let found = program_findings (record { text = text; items = items }) in
      let all : AreExactly (Contains found) found = record { right = λ f h. h; all = λ f h. h } in
      ⊎_elim
      (λ none. nothing_told (program_mistakes (record { text = text; items = items })) none)
      (λ some. absurd (clean found (OfNames (record { items = items; parsed = parsed; some = some; are = all }))))
      (empty_or_not found)

  -- and none in its contracts
  contracts_sound : (contracts : List ContractModel) → IsResolved text contracts → (All (λ c. IsSound c.parts) contracts → ⊥) → ⊥
  contracts_sound contracts resolved none = broken_some laws.judged contracts (λ found are. ⊎_elim
      (λ empty. none (all_sound contracts (nothing_so (IsBroken contracts) found are empty)))
      (λ some. clean found (OfContracts (record { contracts = contracts; resolved = resolved; some = some; are = are })))
      (empty_or_not found))

  pub sound_some : ((contracts : List ContractModel) → IsResolved text contracts → All (λ c. IsSound c.parts) contracts → ⊥) → ⊥
  sound_some none = program_some (λ items parsed.
      let contracts = resolved_contracts text (contracts_of items) in
      let resolved : IsResolved text contracts = record { items = items; parsed = parsed; clean = names_clean items parsed; are = refl } in
      contracts_sound contracts resolved (none contracts resolved))

-- each contract has a line
line_some : Answered → (c : ContractModel) → IsWhole c.parts → IsSound c.parts → ((line : List ℕ) → IsBoundsLine c line → ⊥) → ⊥
line_some laws c whole sound none =
    laws.bounded c.parts whole sound Exp (λ to_exp exp. laws.bounded c.parts whole sound Imp (λ to_imp imp.
    none (bounds_line c.name to_exp to_imp) (record { to_exp = to_exp; to_imp = to_imp; exp = ∣ exp ∣₁; imp = ∣ imp ∣₁; is = refl })))

lines_some : Answered → (contracts : List ContractModel) → All (λ c. IsWhole c.parts) contracts → All (λ c. IsSound c.parts) contracts
    → ((lines : List (List ℕ)) → AllZip IsBoundsLine contracts lines → ⊥) → ⊥
lines_some laws [] whole sound none = none [] tt
lines_some laws (c ∷ cs) whole sound none =
    let are_whole = λ (x : ContractModel). IsWhole x.parts in
    let are_sound = λ (x : ContractModel). IsSound x.parts in
    line_some laws c (All-head are_whole c cs whole) (All-head are_sound c cs sound) (λ line its.
    lines_some laws cs (All-tail are_whole c cs whole) (All-tail are_sound c cs sound) (λ lines each. none (line ∷ lines) (its, each)))

pub bounds_some : Answered → (text : List ℕ) → ((bytes : List ℕ) (status : Status) → Answers text bytes status → ⊥) → ⊥
bounds_some laws text none = sound_some laws text
    (λ found are. let report = report_there found in none report.0 Found (record { found = found; are = are; told = report.1 }))
    (λ contracts resolved sound.
    let whole = subst (All (λ c. IsWhole c.parts)) (sym resolved.are)
    (laws.whole (record { text = text; items = resolved.items }) resolved.clean) in
    lines_some laws contracts whole sound (λ lines each.
    none (concat lines ++ ok_line (length contracts)) Empty
    (record { contracts = contracts; resolved = resolved; sound = sound; lines = lines; each = each; are = refl })))

-- the program of a text whose contracts are sound
pub program_there : (text : List ℕ) (contracts : List ContractModel) (resolved : IsResolved text contracts) → All (λ c. IsSound c.parts) contracts
    → HasProgram text (program_told (record { text = text; items = resolved.items }))
program_there text contracts resolved sound = record {
  resolved = record { items = resolved.items; parsed = resolved.parsed; clean = resolved.clean; are = refl };
  sound = subst (All (λ c. IsSound c.parts)) resolved.are sound;
  is = refl;
}

-- either nothing is found in the methods of a program, or something is
methods_some : Answered → (text : List ℕ) (p : ProgramModel) → HasProgram text p → ((bytes : List ℕ) (status : Status) → Checks text bytes status → ⊥) → ⊥
methods_some laws text p has none = wrong_some laws.verdicts p (λ found are. ⊎_elim
    (λ empty.
    let clear = nothing_so (IsWrong p) found are empty in
    none (clear_line (length p.contracts) (length p.methods)) Empty (record { program = p; has = has; none = clear; are = refl }))
    (λ some.
    let report = report_there found in
    let misowned = OfMethods (record { program = p; has = has; some = some; are = are }) in
    none report.0 Found (record { found = found; are = misowned; told = report.1 }))
    (empty_or_not found))

pub check_some : Answered → (text : List ℕ) → ((bytes : List ℕ) (status : Status) → Checks text bytes status → ⊥) → ⊥
check_some laws text none = sound_some laws text
    (λ found are. let report = report_there found in none report.0 Found (record { found = found; are = Before are; told = report.1 }))
    (λ contracts resolved sound.
    methods_some laws text (program_told (record { text = text; items = resolved.items })) (program_there text contracts resolved sound) none)
