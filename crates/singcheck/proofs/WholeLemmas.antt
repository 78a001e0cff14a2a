-- The contracts of a program are whole, each by its index.
use Rattle.std.proofs.Common.{◌≡◌, ℕ, zero, suc, List, [], ◌∷◌, map, Some, subst, arith}
use Rattle.std.specs.Prelude.{All, slice_get}
use Rattle.program.specs.Parts.{Parts, IsWhole, contract_parts, contract_model}
use Rattle.program.specs.declared.contract.Contract.{Contract}

pub whole_at : (contracts : List Contract) (i : ℕ) (parts : Parts) → All (λ c. IsWhole c.parts) (map contract_model contracts) → slice_get (map contract_parts contracts) i ≡ Some parts → IsWhole parts
whole_at [] i parts all e = absurd (cc)
whole_at (c ∷ cs) zero parts all e = let same : contract_parts c ≡ parts = cc in subst IsWhole same (all 0 (contract_model c) (omega arith))
whole_at (c ∷ cs) (suc i) parts all e = whole_at cs i parts (λ k d lt. all (suc k) d (omega (arith, lt))) e
