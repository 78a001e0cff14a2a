-- What a run reads and writes.
use Rattle.std.specs.Prelude.{◌≡◌, ℕ, ◌≤◌, List, length, drop, Option, Some, IfSome}
use Rattle.std.specs.Io.KnownBytes.{Appends, Consumes}
use Rattle.devices.specs.Devices.{TakesBeginning}
use Rattle.devices.specs.declared.fault.Status.{Status}

-- The answer to the text was written, all of it. What counts as an answer is a parameter.
pub record Writes (answer : List ℕ → List ℕ → Status → Type 0) (text : List ℕ) (old new : Option (List ℕ)) (status : Status) : Type 0 where
  pub bytes : List ℕ
  pub answers : answer text bytes status
  pub written : Appends old new bytes

-- the first bytes of the answer to the text were written, perhaps none or all
pub record BeginsAnswer (answer : List ℕ → List ℕ → Status → Type 0) (text : List ℕ) (old new : Option (List ℕ)) : Type 0 where
  pub bytes : List ℕ
  pub status : Status
  pub answers : answer text bytes status
  pub begun : TakesBeginning old new bytes

-- at most this many bytes were read, from the front
pub record TakesAtMost (most : ℕ) (old new : Option (List ℕ)) : Type 0 where
  pub taken : List ℕ
  pub few : length taken ≤ most
  pub front : Consumes old new taken

-- this many bytes were read, or all if there are fewer, and the rest is left
abbrev pub LeavesRest : ℕ → Option (List ℕ) → Option (List ℕ) → Type 0
LeavesRest most old new = IfSome old (λ bytes. new ≡ Some (drop most bytes))
