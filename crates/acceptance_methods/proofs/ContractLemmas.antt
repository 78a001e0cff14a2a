-- A program of one contract.
use Rattle.std.proofs.Common.{◌≡◌, ◌∙◌, ℕ, zero, suc, List, [], ◌∷◌, length, map, Some, ap, sym, subst, arith}
use Rattle.std.specs.Prelude.{All, slice_get}
use Rattle.contracts.specs.Sounds.{sound_parts}
use Rattle.contracts.specs.declared.sound.Sound.{Sound}
use Rattle.program.specs.Parts.{ContractModel, IsWhole, Parts, contract_parts, contract_model}
use Rattle.program.specs.declared.contract.Contract.{Contract}

pub whole_at : (contracts : List Contract) (i : ℕ) (parts : Parts) → All (λ c. IsWhole (contract_parts c)) contracts → slice_get (map contract_parts contracts) i ≡ Some parts → IsWhole parts
whole_at [] i parts all e = absurd (cc)
whole_at (c ∷ cs) zero parts all e = let same : contract_parts c ≡ parts = cc in subst IsWhole same (all 0 c (omega arith))
whole_at (c ∷ cs) (suc i) parts all e = whole_at cs i parts (λ k d lt. all (suc k) d (omega (arith, lt))) e

pub one_sound : (contracts : List Contract) (sounds : List Sound) (sound : Sound) (parts : Parts) → length contracts ≡ 1 → slice_get (map contract_parts contracts) 0 ≡ Some parts → sound_parts sound ≡ parts → sounds ≡ sound ∷ []
    → map sound_parts sounds ≡ map (λ (c : ContractModel). c.parts) (map contract_model contracts)
one_sound [] sounds sound parts one at its is = absurd (omega (arith, one))
one_sound (c ∷ []) sounds sound parts one at its is = let same : contract_parts c ≡ parts = cc in ap (map sound_parts) is ∙ ap (λ (p : Parts). p ∷ []) (its ∙ sym same)
one_sound (c ∷ d ∷ cs) sounds sound parts one at its is = absurd (omega (arith, one))
