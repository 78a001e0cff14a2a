-- What was found below an index of a list.
use Rattle.std.specs.Prelude.{ℕ, ◌<◌, List, Contains}
use Rattle.contracts.specs.Conditions.{FindingModel}

-- exactly the findings at the indices below n
pub record FoundBelow (At : ℕ → FindingModel → Type 0) (n : ℕ) (found : List FindingModel) : Type 0 where
  pub right : (f : FindingModel) → Contains found f → (i : ℕ) × (i < n) × At i f
  pub all : (i : ℕ) (f : FindingModel) → i < n → At i f → Contains found f
