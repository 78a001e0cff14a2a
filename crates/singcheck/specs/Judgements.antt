-- For proofs within the crate: the contracts of a text, judged one after another.
use Rattle.std.specs.Prelude.{◌≡◌, ℕ, List, [], ◌∷◌, ◌++◌, map, All}
use Rattle.source.specs.Findings.{FindingModel}
use Rattle.program.specs.Parts.{ContractModel, contract_model}
use Rattle.contracts.specs.Conditions as conditions
use Rattle.contracts.specs.Conditions.{AreExactly, IsSound}
use Rattle.contracts.specs.Parts.{Parts}
use Rattle.contracts.specs.Sounds.{sound_parts}
use Rattle.contracts.specs.declared.sound.Sound.{Sound}
use Rattle.singcheck.specs.Answers.{IsBoundsLine, IsResolved, IsBroken}
use Rattle.singcheck.specs.Broken.{found_of}
use Rattle.singcheck.specs.Fronts.{AreBrokenContracts}
use Rattle.singcheck.specs.declared.bounds.Clean.{Clean}
use Rattle.singcheck.specs.declared.soundness.BrokenContract.{BrokenContract}
use Rattle.singcheck.specs.declared.soundness.Judgement.{Judgement}
use Rattle.singcheck.specs.declared.soundness.Judgement.TheVariants as judgement
use Rattle.singcheck.specs.declared.soundness.Judging.{Judging}

-- the contracts of the text, and a sound one for each
pub record IsClean (text : List ℕ) (clean : Clean) : Type 0 where
  pub resolved : IsResolved text (map contract_model clean.resolved.contracts.items)
  pub sounds : map sound_parts clean.sounds.items ≡ map (λ c. c.parts) (map contract_model clean.resolved.contracts.items)
  pub sound : All (λ c. IsSound c.parts) (map contract_model clean.resolved.contracts.items)

-- these contracts are sound, and these are their parts
pub record AreSounds (contracts : List ContractModel) (sounds : List Sound) : Type 0 where
  pub kept : map sound_parts sounds ≡ map (λ c. c.parts) contracts
  pub sound : All (λ c. IsSound c.parts) contracts

-- those of these contracts that have findings, or the sound ones if there are none
abbrev pub IsJudgement : List ContractModel → Judgement → Type 0
IsJudgement contracts (judgement.Broken broken) = AreBrokenContracts contracts broken.items
IsJudgement contracts (judgement.Sound sounds) = AreSounds contracts sounds.items

-- a sound contract is kept
pub record KeepsSound (c : ContractModel) (old new : Judging) : Type 0 where
  pub sound : IsSound c.parts
  pub kept : map sound_parts new.sounds.items ≡ map sound_parts old.sounds.items ++ c.parts ∷ []
  pub same : new.broken.items ≡ old.broken.items

-- all findings of a contract with these parts are added
pub record AddsAll (parts : Parts) (old new : List BrokenContract) : Type 0 where
  pub more : List FindingModel
  pub exactly : AreExactly (conditions.IsFlaw parts) more
  pub added : found_of new ≡ found_of old ++ more

-- a contract has findings, and all of them are added
pub record AddsFaults (c : ContractModel) (old new : Judging) : Type 0 where
  pub broken : (f : FindingModel) × conditions.IsFlaw c.parts f
  pub all : AddsAll c.parts old.broken.items new.broken.items

pub data JudgesContract (c : ContractModel) (old new : Judging) : Type 0 where
  Keeps : KeepsSound c old new → JudgesContract c old new
  Adds : AddsFaults c old new → JudgesContract c old new

-- these contracts have been judged
pub record AreJudged (contracts : List ContractModel) (judging : Judging) : Type 0 where
  pub exactly : AreExactly (IsBroken contracts) (found_of judging.broken.items)
  pub kept : judging.broken.items ≡ [] → map sound_parts judging.sounds.items ≡ map (λ c. c.parts) contracts

-- the line of a contract is added
pub record AddsLine (c : ContractModel) (old new : List ℕ) : Type 0 where
  pub line : List ℕ
  pub its : IsBoundsLine c line
  pub added : new ≡ old ++ line
