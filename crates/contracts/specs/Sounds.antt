-- The parts of a sound contract, and the result of judging a contract.
use Rattle.std.specs.Prelude.{◌≡◌, map}
use Rattle.contracts.specs.Conditions.{FindingModel, finding_model, AreExactly, IsFlaw, IsSound}
use Rattle.contracts.specs.Parts.{Parts, contract_parts}
use Rattle.contracts.specs.declared.sound.Judged.{Judged}
use Rattle.contracts.specs.declared.sound.Judged.TheVariants as judged
use Rattle.contracts.specs.declared.sound.Sound.{Sound}

-- the parts of the contract from which it was made
abbrev pub sound_parts : Sound → Parts
sound_parts s = contract_parts s.contract.value

-- either a sound contract of these parts, or all their findings, at least one
abbrev pub IsJudged : Parts → Judged → Type 0
IsJudged parts (judged.Sound sound) = (sound_parts sound ≡ parts) × IsSound parts
IsJudged parts (judged.Broken found) = ((f : FindingModel) × IsFlaw parts f) × AreExactly (IsFlaw parts) (map finding_model found.items)
