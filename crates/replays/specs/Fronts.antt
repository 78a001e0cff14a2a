-- For proofs within the crate: the front of bytes, and separators of pieces.
use Rattle.std.specs.Prelude.{◌≡◌, ℕ, ◌==◌, nat_lt, Bool, false, List, [], ◌∷◌, ◌++◌, if◌then◌else◌}
use Rattle.std.specs.Char.{is_ascii_digit}
use Rattle.machine.specs.declared.halts.Event.{Event}
use Rattle.replays.specs.Schedules.{IsMalformed, IsNumber, Tell}
use Rattle.replays.specs.declared.fault.ScheduleFault.{ScheduleFault}
use Rattle.replays.specs.declared.fault.ScheduleFault.TheVariants.{Malformed, Memory}

-- a space
abbrev pub is_space : ℕ → Bool
is_space b = b == 32

-- the first byte, if there is one, does not meet the condition
abbrev pub StopsAt : (ℕ → Bool) → List ℕ → Type 0
StopsAt p [] = Unit {0}
StopsAt p (b ∷ bytes) = p b ≡ false

-- the bytes begin with a number, which no digit follows
pub record BeginsWith (bytes : List ℕ) (n : ℕ) (rest : List ℕ) : Type 0 where
  pub digits : List ℕ
  pub number : IsNumber digits n
  pub are : bytes ≡ digits ++ rest
  pub stops : StopsAt is_ascii_digit rest

-- the events of a line, one or none, are added
pub record AddsTold (line : List ℕ) (old new : List Event) : Type 0 where
  pub more : List Event
  pub told : Tell (line ∷ []) more
  pub added : new ≡ old ++ more

-- why the event of a line of this number was not added; `Memory` implies nothing
abbrev pub IsFaultOf : List ℕ → ℕ → ScheduleFault → Type 0
IsFaultOf line number (Malformed n) = (n ≡ number) × IsMalformed line
IsFaultOf line number Memory = Unit {0}

-- what is put before the piece at this index: nothing before the first
abbrev pub separator : ℕ → ℕ → List ℕ
separator place between = if nat_lt 0 place then between ∷ [] else []
