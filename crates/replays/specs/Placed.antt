-- For proofs within the crate: the indices of states in their contracts.
use Rattle.std.specs.Prelude.{◌≡◌, ℕ, List, Option, map, option_and_then, slice_get}
use Rattle.std.specs.BTreeMap.{BTreeMap, get}
use Rattle.std.specs.Ordering.{nat_cmp}
use Rattle.lemmas.specs.Places.{first_position}
use Rattle.program.specs.Parts.{ContractModel}

-- the index of a state of a contract among its states, by a table for each contract
abbrev pub index_in : List (BTreeMap ℕ ℕ) → ℕ → ℕ → Option ℕ
index_in tables contract state = option_and_then (λ m. get nat_cmp m state) (slice_get tables contract)

-- the first index of a state of this number
abbrev pub index_of_state : List ContractModel → ℕ → ℕ → Option ℕ
index_of_state contracts contract state =
    option_and_then (λ c. first_position nat_cmp (map (λ s. s.id.0) c.parts.states) state) (slice_get contracts contract)

-- the tables have the index of each state
abbrev pub ArePlaced : List ContractModel → List (BTreeMap ℕ ℕ) → Type 0
ArePlaced contracts tables = (contract state : ℕ) → index_in tables contract state ≡ index_of_state contracts contract state
