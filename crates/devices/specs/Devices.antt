-- Devices that may fail, and what they took.
use Rattle.std.specs.Prelude.{◌≡◌, ℕ, ◌+◌, ◌%◌, ◌^◌, List, ◌++◌, Option, Result, MatchResult}
use Rattle.std.specs.Io.KnownBytes.{Appends}

-- a call adds one, wrapping, exactly if it fails
abbrev pub Counts : {T E : Type 0} → ℕ → ℕ → Result T E → Type 0
Counts old new result = MatchResult result (λ _. new ≡ old) (λ _. new ≡ (old + 1) % 2 ^ 64)

-- the first of these bytes were taken, perhaps none or all
pub record TakesBeginning (old new : Option (List ℕ)) (bytes : List ℕ) : Type 0 where
  pub sent : List ℕ
  pub more : List ℕ
  pub whole : sent ++ more ≡ bytes
  pub taken : Appends old new sent
