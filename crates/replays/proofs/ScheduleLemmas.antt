-- Lines in order, and their events.
use Rattle.std.proofs.Common.{◌≡◌, ◌<◌, ◌≤◌, ◌+◌, ◌==◌, ◌⊎◌, inl, ℕ, min, List, [], ◌∷◌, ◌++◌, length, take, refl, ap, sym, ◌∙◌, subst, arith, append_assoc, length-append, take_all}
use Rattle.std.proofs.lemmas.List.{take_min}
use Rattle.std.proofs.lemmas.List.Splits.{length-slice_split}
use Rattle.std.specs.List.{slice_split}
use Rattle.std.specs.Str.Lines.{strip_carriage_return}
use Rattle.machine.specs.declared.halts.Event.{Event}
use Rattle.replays.specs.Fronts.{AddsTold, IsFaultOf}
use Rattle.replays.specs.Schedules.{IsFirstMalformed, IsMalformed, IsSchedule, ReadsSchedule, Tell, line_texts, lines_of, without_comment}
use Rattle.std.specs.Prelude.{Err}
use Rattle.replays.specs.declared.fault.ScheduleFault.{ScheduleFault}
use Rattle.replays.specs.declared.fault.ScheduleFault.TheVariants.{Malformed, Memory}
use Rattle.replays.specs.declared.limits.TheConstants.{MOST_SCHEDULE}

ended_more : (line : List ℕ) (lines : List (List ℕ)) → 0 < length lines → line_texts (line ∷ lines) ≡ without_comment (strip_carriage_return line) ∷ line_texts lines
ended_more line [] h = absurd (omega arith)
ended_more line (next ∷ lines) h = refl

-- a line with its end, and the lines after it
pub lines_more : (bytes line behind : List ℕ) → slice_split (λ b. b == 10) bytes ≡ line ∷ slice_split (λ b. b == 10) behind → lines_of bytes ≡ without_comment (strip_carriage_return line) ∷ lines_of behind
lines_more bytes line behind e = ap line_texts e ∙ ended_more line (slice_split (λ b. b == 10) behind) (omega (arith, length-slice_split (λ b. b == 10) behind))

-- the last line
pub lines_last : (bytes : List ℕ) → slice_split (λ b. b == 10) bytes ≡ bytes ∷ [] → lines_of bytes ≡ without_comment bytes ∷ []
lines_last bytes e = ap line_texts e

-- the events of lines after others come after the events of those
pub tell_append : (a : List (List ℕ)) (es : List Event) (b : List (List ℕ)) (fs : List Event) → Tell a es → Tell b fs → Tell (a ++ b) (es ++ fs)
tell_append [] [] b fs h k = k
tell_append [] (e ∷ es) b fs h k = absurd h
tell_append ([] ∷ a) es b fs h k = tell_append a es b fs h k
tell_append ((c ∷ cs) ∷ a) [] b fs h k = absurd h
tell_append ((c ∷ cs) ∷ a) (e ∷ es) b fs h k = (h.0, tell_append a es b fs h.1 k)

-- the lines before this number have these events, and the rest of the bytes is still to be read
pub record IsSoFar (bytes rest : List ℕ) (number : ℕ) (events : List Event) : Type 0 where
  pub before : List (List ℕ)
  pub lines : lines_of bytes ≡ before ++ lines_of rest
  pub counted : number ≡ length before + 1
  pub told : Tell before events

pub at_first : (bytes : List ℕ) (events : List Event) → events ≡ [] → IsSoFar bytes bytes 1 events
at_first bytes events e = record { before = []; lines = refl; counted = refl; told = subst (Tell []) (sym e) tt }

-- one more line
pub goes_on : (bytes rest line behind : List ℕ) (number : ℕ) (old new : List Event) → IsSoFar bytes rest number old → slice_split (λ b. b == 10) rest ≡ line ∷ slice_split (λ b. b == 10) behind
    → AddsTold (without_comment (strip_carriage_return line)) old new → IsSoFar bytes behind (number + 1) new
goes_on bytes rest line behind number old new s e a =
    let here = without_comment (strip_carriage_return line) in
    record {
      before = s.before ++ here ∷ [];
      lines = s.lines ∙ ap (λ l. s.before ++ l) (lines_more rest line behind e) ∙ sym (append_assoc s.before (here ∷ []) (lines_of behind));
      counted = omega (arith, s.counted, length-append s.before (here ∷ []));
      told = subst (Tell (s.before ++ here ∷ [])) (sym a.added) (tell_append s.before old (here ∷ []) a.more s.told a.told);
    }

-- a malformed line is the first one
pub is_first : (bytes rest line : List ℕ) (behind : List (List ℕ)) (number : ℕ) (events : List Event) → IsSoFar (take (min MOST_SCHEDULE (length bytes)) bytes) rest number events → lines_of rest ≡ line ∷ behind
    → IsMalformed line ⊎ ((MOST_SCHEDULE < length bytes) × (behind ≡ [])) → IsFirstMalformed bytes number
is_first bytes rest line behind number events s e wrong = record {
  before = s.before;
  line = line;
  behind = behind;
  lines = ap lines_of (sym (take_min MOST_SCHEDULE bytes)) ∙ s.lines ∙ ap (λ l. s.before ++ l) e;
  counted = s.counted;
  events = events;
  told = s.told;
  wrong = wrong;
}

-- the fault of a line is the fault of the schedule
pub refused : (bytes rest line : List ℕ) (behind : List (List ℕ)) (number : ℕ) (events : List Event) (e : ScheduleFault) → IsSoFar (take (min MOST_SCHEDULE (length bytes)) bytes) rest number events → lines_of rest ≡ line ∷ behind
    → IsFaultOf line number e → ReadsSchedule bytes (Err e)
refused bytes rest line behind number events (Malformed n) s e f = subst (IsFirstMalformed bytes) (sym f.0) (is_first bytes rest line behind number events s e (inl f.1))
refused bytes rest line behind number events Memory s e f = tt

-- all lines are read
pub is_schedule : (bytes rest : List ℕ) (number : ℕ) (old new : List Event) → length bytes ≤ MOST_SCHEDULE → IsSoFar (take (min MOST_SCHEDULE (length bytes)) bytes) rest number old
    → slice_split (λ b. b == 10) rest ≡ rest ∷ [] → AddsTold (without_comment rest) old new → IsSchedule bytes new
is_schedule bytes rest number old new short s e a =
    let last = without_comment rest in
    let all : take (min MOST_SCHEDULE (length bytes)) bytes ≡ bytes = take_min MOST_SCHEDULE bytes ∙ take_all MOST_SCHEDULE bytes short in
    let lines : lines_of bytes ≡ s.before ++ last ∷ [] = ap lines_of (sym all) ∙ s.lines ∙ ap (λ l. s.before ++ l) (lines_last rest e) in
    record {
      short = short;
      told = subst (λ l. Tell l new) (sym lines) (subst (Tell (s.before ++ last ∷ [])) (sym a.added) (tell_append s.before old (last ∷ []) a.more s.told a.told));
    }
