-- Bytes are one schedule, or have one first malformed line.
use Rattle.std.proofs.Common.{◌≡◌, ◌<◌, ◌≤◌, ◌+◌, ◌⊎◌, inl, inr, ℕ, List, [], ◌∷◌, ◌++◌, length, take, refl, ap, ap₂, sym, ◌∙◌, subst, arith, length-append, take_all, length-take, ⊎_elim, append_assoc, suc, ◌==◌, Bool, true, false, leb, leb-true, leb-false}
use Rattle.std.proofs.lemmas.List.{take-take}
use Rattle.std.proofs.lemmas.List.Splits.{length-slice_split}
use Rattle.std.specs.List.{slice_split}
use Rattle.machine.specs.declared.halts.Event.{Event}
use Rattle.replays.specs.Schedules.{IsEventLine, IsFirstMalformed, IsMalformed, IsSchedule, Tell, line_texts, lines_of}
use Rattle.replays.specs.declared.limits.TheConstants.{MOST_SCHEDULE}
use Rattle.replays.proofs.EventLemmas.{one_event}

-- lines have one list of events
pub tell_once : (lines : List (List ℕ)) (a b : List Event) → Tell lines a → Tell lines b → a ≡ b
tell_once [] [] [] h k = refl
tell_once [] [] (f ∷ fs) h k = absurd k
tell_once [] (e ∷ es) b h k = absurd h
tell_once ([] ∷ lines) a b h k = tell_once lines a b h k
tell_once ((c ∷ cs) ∷ lines) [] b h k = absurd h
tell_once ((c ∷ cs) ∷ lines) (e ∷ es) [] h k = absurd k
tell_once ((c ∷ cs) ∷ lines) (e ∷ es) (f ∷ fs) h k = ap₂ (λ x xs. x ∷ xs) (one_event (c ∷ cs) e f h.0 k.0) (tell_once lines es fs h.1 k.1)

-- the lines after the first have events too
tell_behind : (line : List ℕ) (lines : List (List ℕ)) (events : List Event) → Tell (line ∷ lines) events → (more : List Event) × Tell lines more
tell_behind [] lines events h = (events, h)
tell_behind (c ∷ cs) lines [] h = absurd h
tell_behind (c ∷ cs) lines (e ∷ es) h = (es, h.1)

-- the first line is not malformed
tell_first : (line : List ℕ) (lines : List (List ℕ)) (events : List Event) → Tell (line ∷ lines) events → IsMalformed line → ⊥
tell_first [] lines events h m = m.some refl
tell_first (c ∷ cs) lines [] h m = h
tell_first (c ∷ cs) lines (e ∷ es) h m = m.none e h.0

tell_at : (before : List (List ℕ)) (line : List ℕ) (behind : List (List ℕ)) (events : List Event) → Tell (before ++ line ∷ behind) events → IsMalformed line → ⊥
tell_at [] line behind events h m = tell_first line behind events h m
tell_at (x ∷ before) line behind events h m = let rest = tell_behind x (before ++ line ∷ behind) events h in tell_at before line behind rest.0 rest.1 m

-- If there are too many bytes, the last line is wrong.
abbrev IsWrong : (long : Type 0) → List ℕ → List (List ℕ) → Type 0
IsWrong long line behind = IsMalformed line ⊎ (long × (behind ≡ []))

not_before : (long : Type 0) (line x : List ℕ) (behind before more : List (List ℕ)) (other : List ℕ) (events : List Event) → line ∷ behind ≡ (x ∷ before) ++ other ∷ more → Tell (x ∷ before) events → IsWrong long line behind → ⊥
not_before long line x behind before more other events e h (inl m) = let k : line ≡ x = cc in tell_first x before events h (subst IsMalformed k m)
not_before long line x behind before more other events e h (inr p) =
    let k : behind ≡ before ++ other ∷ more = cc in
    omega (arith, ap (λ l. length l) (sym k ∙ p.1), length-append before (other ∷ more))

-- two wrong lines, each with no wrong line before it, are at the same position
wrong_once : (long : Type 0) (a b : List (List ℕ)) (line other : List ℕ) (behind more : List (List ℕ)) (es fs : List Event) → a ++ line ∷ behind ≡ b ++ other ∷ more → Tell a es → Tell b fs → IsWrong long line behind → IsWrong long other more → length a ≡ length b
wrong_once long [] [] line other behind more es fs e h k u v = refl
wrong_once long [] (y ∷ b) line other behind more es fs e h k u v = absurd (not_before long line y behind b more other fs e k u)
wrong_once long (x ∷ a) [] line other behind more es fs e h k u v = absurd (not_before long other x more a behind line es (sym e) h v)
wrong_once long (x ∷ a) (y ∷ b) line other behind more es fs e h k u v =
    let left = tell_behind x a es h in
    let right = tell_behind y b fs k in
    let tails : a ++ line ∷ behind ≡ b ++ other ∷ more = cc in
    let same : length a ≡ length b = wrong_once long a b line other behind more left.0 right.0 tails left.1 right.1 u v in
    omega (arith, same)

pub one_line : (bytes : List ℕ) (m n : ℕ) → IsFirstMalformed bytes m → IsFirstMalformed bytes n → m ≡ n
one_line bytes m n a b =
    let same : length a.before ≡ length b.before = wrong_once (MOST_SCHEDULE < length bytes) a.before b.before a.line b.line a.behind b.behind a.events b.events (sym a.lines ∙ b.lines) a.told b.told a.wrong b.wrong in
    omega (arith, a.counted, b.counted, same)

pub one_schedule : (bytes : List ℕ) (a b : List Event) → IsSchedule bytes a → IsSchedule bytes b → a ≡ b
one_schedule bytes a b s t = tell_once (lines_of bytes) a b s.told t.told

pub not_both : (bytes : List ℕ) (events : List Event) (n : ℕ) → IsSchedule bytes events → IsFirstMalformed bytes n → ⊥
not_both bytes events n s m = by m.wrong
  where
    by : IsMalformed m.line ⊎ ((MOST_SCHEDULE < length bytes) × (m.behind ≡ [])) → ⊥
    by (inl wrong) =
        let all : take MOST_SCHEDULE bytes ≡ bytes = take_all MOST_SCHEDULE bytes s.short in
        tell_at m.before m.line m.behind events (subst (λ l. Tell l events) (ap lines_of (sym all) ∙ m.lines) s.told) wrong
    by (inr long) = omega (arith, long.0, s.short)

-- lines without a list of events have a first malformed one
no_events : (lines : List (List ℕ)) → ((events : List Event) → Tell lines events → ⊥)
    → ((before : List (List ℕ)) (line : List ℕ) (behind : List (List ℕ)) (events : List Event) → lines ≡ before ++ line ∷ behind → Tell before events → IsMalformed line → ⊥) → ⊥
no_events [] none all = none [] tt
no_events ([] ∷ lines) none all = no_events lines none (λ before line behind events e h m. all ([] ∷ before) line behind events (ap (λ l. [] ∷ l) e) h m)
no_events ((c ∷ cs) ∷ lines) none all =
    let good = λ (e : Event) (is : IsEventLine (c ∷ cs) e). no_events lines (λ events h. none (e ∷ events) (is, h))
    (λ before line behind events same h m. all ((c ∷ cs) ∷ before) line behind (e ∷ events) (ap (λ l. (c ∷ cs) ∷ l) same) (is, h) m) in
    all [] (c ∷ cs) lines [] refl tt (record { some = λ e. omega (arith, ap (λ l. length l) e); none = good })

length-ended : (lines : List (List ℕ)) → length (line_texts lines) ≡ length lines
length-ended [] = refl
length-ended (line ∷ []) = refl
length-ended (line ∷ next ∷ lines) = ap suc (length-ended (next ∷ lines))

some_lines : (bytes : List ℕ) → 0 < length (lines_of bytes)
some_lines bytes = omega (arith, length-ended (slice_split (λ b. b == 10) bytes), length-slice_split (λ b. b == 10) bytes)

-- a non-empty list of lines, split before its last line
last_of : (lines : List (List ℕ)) → 0 < length lines → (front : List (List ℕ)) × (line : List ℕ) × (lines ≡ front ++ line ∷ [])
last_of [] h = absurd (omega arith)
last_of (line ∷ []) h = ([], line, refl)
last_of (line ∷ next ∷ lines) h = let r = last_of (next ∷ lines) (omega arith) in (line ∷ r.0, r.1, ap (λ l. line ∷ l) r.2)

pub each_read : (bytes : List ℕ) → ((events : List Event) → ¬ IsSchedule bytes events) → ((n : ℕ) → ¬ IsFirstMalformed bytes n) → ⊥
each_read bytes none all = by (leb (length bytes) MOST_SCHEDULE) refl
  where
    short : length bytes ≤ MOST_SCHEDULE → ⊥
    short h = no_events (lines_of bytes) (λ events told. none events (record { short = h; told = told }))
        (λ before line behind events e told m. all (length before + 1) (record {
          before = before;
          line = line;
          behind = behind;
          lines = ap lines_of (take_all MOST_SCHEDULE bytes h) ∙ e;
          counted = refl;
          events = events;
          told = told;
          wrong = inl m;
        }))

    long : MOST_SCHEDULE < length bytes → ⊥
    long h =
        let ends = last_of (lines_of (take MOST_SCHEDULE bytes)) (some_lines (take MOST_SCHEDULE bytes)) in
        no_events ends.0 (λ events told. all (length ends.0 + 1) (record {
          before = ends.0;
          line = ends.1;
          behind = [];
          lines = ends.2;
          counted = refl;
          events = events;
          told = told;
          wrong = inr (h, refl);
        }))
        (λ before line behind events e told m. all (length before + 1) (record {
          before = before;
          line = line;
          behind = behind ++ ends.1 ∷ [];
          lines = ends.2 ∙ ap (λ l. l ++ ends.1 ∷ []) e ∙ append_assoc before (line ∷ behind) (ends.1 ∷ []);
          counted = refl;
          events = events;
          told = told;
          wrong = inl m;
        }))

    by : (b : Bool) → leb (length bytes) MOST_SCHEDULE ≡ b → ⊥
    by true e = short (leb-true (length bytes) MOST_SCHEDULE e)
    by false e = long (omega (arith, leb-false (length bytes) MOST_SCHEDULE e))

-- `MOST_SCHEDULE + 1` bytes suffice: if they are a schedule, so are all bytes
pub front_events : (bytes : List ℕ) (events : List Event) → IsSchedule (take (MOST_SCHEDULE + 1) bytes) events → IsSchedule bytes events
front_events bytes events s =
    let size = length-take (MOST_SCHEDULE + 1) bytes in
    let short : length bytes ≤ MOST_SCHEDULE = omega (arith, size, s.short) in
    subst (λ l. IsSchedule l events) (take_all (MOST_SCHEDULE + 1) bytes (omega (arith, short))) s

pub front_line : (bytes : List ℕ) (n : ℕ) → IsFirstMalformed (take (MOST_SCHEDULE + 1) bytes) n → IsFirstMalformed bytes n
front_line bytes n m =
    let size = length-take (MOST_SCHEDULE + 1) bytes in
    let same : take MOST_SCHEDULE (take (MOST_SCHEDULE + 1) bytes) ≡ take MOST_SCHEDULE bytes = take-take MOST_SCHEDULE (MOST_SCHEDULE + 1) bytes (omega arith) in
    record {
      before = m.before;
      line = m.line;
      behind = m.behind;
      lines = ap lines_of (sym same) ∙ m.lines;
      counted = m.counted;
      events = m.events;
      told = m.told;
      wrong = ⊎_elim (λ w. inl w) (λ (w : (MOST_SCHEDULE < length (take (MOST_SCHEDULE + 1) bytes)) × (m.behind ≡ [])). inr (omega (arith, size, w.0), w.1)) m.wrong;
    }
