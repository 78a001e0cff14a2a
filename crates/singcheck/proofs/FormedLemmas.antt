-- The program of a text is well formed, and its contracts are sound.
use Rattle.std.proofs.Common.{◌≡◌, ℕ, zero, suc, List, [], ◌∷◌, Some, sym, subst}
use Rattle.std.specs.Prelude.{All, slice_get}
use Rattle.std.proofs.lemmas.List.Elements.{All-head, All-tail}
use Rattle.tree.specs.Trees.{contracts_of}
use Rattle.names.specs.Findings.{program_mistakes}
use Rattle.declarations.specs.Program.{ProgramText}
use Rattle.declarations.specs.Resolution.{resolved_contracts}
use Rattle.program.specs.Lists.{Each}
use Rattle.program.specs.Parts.{ContractModel, IsWhole}
use Rattle.program.specs.Programs.{ProgramModel}
use Rattle.program.specs.WellFormed.{AreWellFormed}
use Rattle.contracts.specs.Conditions.{IsSound}
use Rattle.resolving.specs.Methods.{methods_told}
use Rattle.sound.specs.Premises.{AreSound}
use Rattle.wellformed.specs.Bare.{IsBare}
use Rattle.wellformed.specs.Told.{program_told}
use Rattle.singcheck.specs.Checks.{HasProgram}

-- laws of the crates below about programs without mistakes in their names
pub record CleanPrograms : Type 0 where
  pub whole : (p : ProgramText) → program_mistakes p ≡ [] → All (λ (c : ContractModel). IsWhole c.parts) (resolved_contracts p.text (contracts_of p.items))
  pub formed : (p : ProgramText) → program_mistakes p ≡ [] → AreWellFormed (program_told p)
  pub bare : (p : ProgramText) → Each IsBare (methods_told p)

-- the text, and its items whose program this is
abbrev of_items : (text : List ℕ) (p : ProgramModel) → HasProgram text p → ProgramText
of_items text p has = record { text = text; items = has.resolved.items }

pub formed_of : CleanPrograms → (text : List ℕ) (p : ProgramModel) → HasProgram text p → AreWellFormed p
formed_of laws text p has = subst AreWellFormed (sym has.is) (laws.formed (of_items text p has) has.resolved.clean)

pub bare_of : CleanPrograms → (text : List ℕ) (p : ProgramModel) → HasProgram text p → Each IsBare p.methods
bare_of laws text p has = subst (λ (q : ProgramModel). Each IsBare q.methods) (sym has.is) (laws.bare (of_items text p has))

-- what holds of all elements holds of the one at an index
all_there : {A : Type 0} (P : A → Type 0) (xs : List A) (n : ℕ) (x : A) → All P xs → slice_get xs n ≡ Some x → P x
all_there P [] n x all at = absurd (cc)
all_there P (y ∷ xs) zero x all at = let same : y ≡ x = cc in subst P same (All-head P y xs all)
all_there P (y ∷ xs) (suc n) x all at = all_there P xs n x (All-tail P y xs all) at

pub sound_of : CleanPrograms → (text : List ℕ) (p : ProgramModel) → HasProgram text p → AreSound p
sound_of laws text p has =
    let are_whole = λ (c : ContractModel). IsWhole c.parts in
    let are_sound = λ (c : ContractModel). IsSound c.parts in
    let whole = subst (All are_whole) (sym has.resolved.are) (laws.whole (of_items text p has) has.resolved.clean) in
    record {
      whole = λ n c there. ∣ all_there are_whole p.contracts n c whole there ∣₁;
      sound = λ n c there. all_there are_sound p.contracts n c has.sound there;
    }
