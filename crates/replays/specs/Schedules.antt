-- Schedules: the lines in a file, and the event of each line.
use Rattle.std.specs.Prelude.{◌≡◌, ◌≢◌, ◌<◌, ◌≤◌, ℕ, ◌+◌, ◌-◌, ◌==◌, List, [], ◌∷◌, ◌++◌, length, take, replicate, ◌⊎◌}
use Rattle.std.specs.Prelude.{Result, Ok, Err, if◌then◌else◌}
use Rattle.std.specs.Global.{Vec}
use Rattle.std.specs.List.{before_first, list_any, slice_split, suffix_len}
use Rattle.std.specs.Str.Lines.{strip_carriage_return}
use Rattle.std.specs.Str.Parse.{IsNumeral, digits_value}
use Rattle.machine.specs.declared.halts.Event.{Event}
use Rattle.replays.specs.declared.limits.TheConstants.{MOST_NUMBER, MOST_SCHEDULE}
use Rattle.replays.specs.declared.fault.ScheduleFault.{ScheduleFault}
use Rattle.replays.specs.declared.fault.ScheduleFault.TheVariants.{Malformed, Memory}

-- a number in a line: one or more decimal digits, whose value is not too large
pub record IsNumber (digits : List ℕ) (n : ℕ) : Type 0 where
  pub numeral : IsNumeral 10 digits
  pub value : n ≡ digits_value 10 digits
  pub small : n ≤ MOST_NUMBER

-- the line of an event: the number of a process, one or more spaces, and the choice
pub record IsEventLine (line : List ℕ) (e : Event) : Type 0 where
  pub first : List ℕ
  pub spaces : ℕ
  pub second : List ℕ
  pub spelled : line ≡ first ++ (replicate spaces 32 ++ second)
  pub process : IsNumber first e.process
  pub some : 0 < spaces
  pub choice : IsNumber second e.choice

-- these are the events of the lines, in order; an empty line has none
abbrev pub Tell : List (List ℕ) → List Event → Type 0
Tell [] [] = Unit {0}
Tell [] (e ∷ events) = ⊥
Tell ([] ∷ lines) events = Tell lines events
Tell ((b ∷ line) ∷ lines) [] = ⊥
Tell ((b ∷ line) ∷ lines) (e ∷ events) = IsEventLine (b ∷ line) e × Tell lines events

-- the line is neither empty nor that of an event
pub record IsMalformed (line : List ℕ) : Type 0 where
  pub some : line ≢ []
  pub none : (e : Event) → ¬ IsEventLine line e

-- the bytes without the spaces at their end
abbrev pub without_spaces_at_end : List ℕ → List ℕ
without_spaces_at_end bytes = take (length bytes - suffix_len (λ b. b == 32) bytes) bytes

-- A line without its comment. If there is a `#` in the line, this is what comes before the first one, without the
-- spaces at its end. A line without a `#` is as it is.
abbrev pub without_comment : List ℕ → List ℕ
without_comment line =
    if list_any (λ b. b == 35) line then without_spaces_at_end (before_first (λ b. b == 35) line) else line

-- the lines between the line ends, each without the CR before its end, and then without its comment
abbrev pub line_texts : List (List ℕ) → List (List ℕ)
line_texts [] = []
line_texts (line ∷ []) = without_comment line ∷ []
line_texts (line ∷ next ∷ lines) = without_comment (strip_carriage_return line) ∷ line_texts (next ∷ lines)

-- the lines in these bytes
abbrev pub lines_of : List ℕ → List (List ℕ)
lines_of bytes = line_texts (slice_split (λ b. b == 10) bytes)

-- the bytes are not too many, and these are the events of their lines
pub record IsSchedule (bytes : List ℕ) (events : List Event) : Type 0 where
  pub short : length bytes ≤ MOST_SCHEDULE
  pub told : Tell (lines_of bytes) events

-- The number of the first malformed line, counted from 1. If there are too many bytes, the line
-- with the first byte past the limit is malformed, which is the last line of the bytes before it.
pub record IsFirstMalformed (bytes : List ℕ) (number : ℕ) : Type 0 where
  pub before : List (List ℕ)
  pub line : List ℕ
  pub behind : List (List ℕ)
  pub lines : lines_of (take MOST_SCHEDULE bytes) ≡ before ++ line ∷ behind
  pub counted : number ≡ length before + 1
  pub events : List Event
  pub told : Tell before events
  pub wrong : IsMalformed line ⊎ ((MOST_SCHEDULE < length bytes) × (behind ≡ []))

-- what a reading returns: the events of a schedule, or its first malformed line; `Memory` implies nothing
abbrev pub ReadsSchedule : List ℕ → Result (Vec Event) ScheduleFault → Type 0
ReadsSchedule bytes (Ok events) = IsSchedule bytes events.items
ReadsSchedule bytes (Err (Malformed number)) = IsFirstMalformed bytes number
ReadsSchedule bytes (Err Memory) = Unit {0}
