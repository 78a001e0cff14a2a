-- A replay, from what is read to what is written; and why it meets no fault if nothing is found.
use Rattle.std.proofs.Common.{◌≡◌, ℕ, zero, suc, Bool, true, false, List, [], ◌∷◌, take, Option, Some, None, refl, subst}
use Rattle.std.specs.Prelude.{◌&&◌, IfSome, IsSomeAnd, not, slice_get}
use Rattle.std.specs.Io.KnownBytes.{Appends}
use Rattle.source.specs.Findings.{FindingModel}
use Rattle.source.specs.declared.lexer.TheConstants.{MAX_TEXT}
use Rattle.source.specs.declared.place.Place.{Place}
use Rattle.program.specs.Lists.{Each}
use Rattle.program.specs.Methods.{MethodModel}
use Rattle.program.specs.Programs.{ProgramModel}
use Rattle.program.specs.WellFormed.{AreWellFormed}
use Rattle.wellformed.specs.Bare.{IsBare}
use Rattle.rules.specs.Programs.{is_entry}
use Rattle.machine.specs.Outcomes.{QueueBounds}
use Rattle.machine.specs.Runs.{AreBounds}
use Rattle.machine.specs.declared.halts.Event.{Event}
use Rattle.machine.specs.declared.halts.Fault.{Fault}
use Rattle.machine.specs.declared.halts.Fault.TheVariants.{F6}
use Rattle.machine.specs.declared.halts.Halt.TheVariants as halt
use Rattle.semantics.specs.Events.{RunsTo, Run, begins, goes_on, moves, stays, start_of}
use Rattle.semantics.specs.Replays.{EndsWith}
use Rattle.semantics.specs.Worlds.{World}
use Rattle.sound.specs.Premises.{AreSound, IsEntry, NothingIsFound}
use Rattle.sound.specs.Queues.{IsBounded}
use Rattle.sound.specs.Safe.{IsSafe}
use Rattle.devices.specs.Devices.{TakesBeginning}
use Rattle.devices.specs.Runs.{BeginsAnswer, Writes}
use Rattle.devices.specs.declared.fault.Status.{Status}
use Rattle.devices.specs.declared.fault.Status.TheVariants.{Found}
use Rattle.devices.specs.declared.reading.TheConstants.{MAX_READ}
use Rattle.singcheck.specs.Checks.{HasProgram, IsWrong}
use Rattle.singcheck.specs.Entered.{MayBegin as BeginsWith}
use Rattle.singcheck.specs.Replays.{HasSomeEntry, IsRan, LacksEntry, LacksSchedule, OfFindings, OfRun, Replays}
use Rattle.singcheck.specs.Safety.{HasEmptyReport, Kept, ReplaysWithinBounds, Reported, RunsSafely}
use Rattle.singcheck.specs.declared.limits.TheConstants.{MAX_SCHEDULE_READ}
use Rattle.singcheck.proofs.LongLemmas.{AreLong, IsOfFront, answers_long, no_program, of_front}
use Rattle.singcheck.proofs.SafetyLemmas.{empty_verdict}
use Rattle.singcheck.proofs.ScheduledLemmas.{of_lines_begun, of_lines_safe, of_lines_written}

-- the result for the bytes of a text that are read is the result for the text
replays_long : (entry lines text other bytes : List ℕ) (status : Status) → AreLong text other → Replays entry lines text bytes status
    → Replays entry lines other bytes status
replays_long entry lines text other bytes status long (OfFindings told is) = OfFindings (answers_long text other bytes Found long told) is
replays_long entry lines text other bytes status long (OfRun ran) =
    no_program text long.one ran.entered.has.resolved.parsed.tokens ran.entered.has.resolved.parsed.lexed

replays_of_front : (entry lines : List ℕ) → IsOfFront (Replays entry lines) MAX_READ
replays_of_front entry lines = record {
  whole = λ text bytes status. of_front (λ t. Replays entry lines t bytes status) MAX_TEXT MAX_READ refl
      (λ a b x y. replays_long entry lines a b bytes status (record { one = x; two = y })) text;
}

pub replay_written : (entry : List ℕ) (a q w v : Option (List ℕ)) (text bytes : List ℕ) (status : Status)
    → IfSome a (λ xs. text ≡ take MAX_READ xs) → IfSome q (λ lines. Replays entry lines text bytes status) → Appends w v bytes
    → IfSome a (λ xs. IfSome q (λ lines. Writes (Replays entry lines) xs w v status))
replay_written entry = of_lines_written (Replays entry) (replays_of_front entry)

pub replay_begun : (entry : List ℕ) (a q w v : Option (List ℕ)) (text bytes : List ℕ) (status : Status)
    → IfSome a (λ xs. text ≡ take MAX_READ xs) → IfSome q (λ lines. Replays entry lines text bytes status) → TakesBeginning w v bytes
    → IfSome a (λ xs. IfSome q (λ lines. BeginsAnswer (Replays entry lines) xs w v))
replay_begun entry = of_lines_begun (Replays entry) (replays_of_front entry)

bounded_long : (entry lines text other bytes : List ℕ) (status : Status) → AreLong text other
    → ReplaysWithinBounds entry lines text bytes status → ReplaysWithinBounds entry lines other bytes status
bounded_long entry lines text other bytes status long (Reported told is) = Reported (answers_long text other bytes Found long told) is
bounded_long entry lines text other bytes status long (Kept kept) =
    no_program text long.one kept.ran.entered.has.resolved.parsed.tokens kept.ran.entered.has.resolved.parsed.lexed

bounded_of_front : (entry lines : List ℕ) → IsOfFront (ReplaysWithinBounds entry lines) MAX_READ
bounded_of_front entry lines = record {
  whole = λ text bytes status. of_front (λ t. ReplaysWithinBounds entry lines t bytes status) MAX_TEXT MAX_READ refl
      (λ a b x y. bounded_long entry lines a b bytes status (record { one = x; two = y })) text;
}

pub replay_bounded : (entry : List ℕ) (a q w v : Option (List ℕ)) (text bytes : List ℕ) (status : Status)
    → IfSome a (λ xs. text ≡ take MAX_READ xs) → IfSome q (λ lines. ReplaysWithinBounds entry lines text bytes status) → Appends w v bytes
    → IfSome a (λ xs. IfSome q (λ lines. Writes (ReplaysWithinBounds entry lines) xs w v status))
replay_bounded entry = of_lines_written (ReplaysWithinBounds entry) (bounded_of_front entry)

pub replay_safe : (entry : List ℕ) (a q w v : Option (List ℕ)) (text bytes : List ℕ) (status : Status)
    → IfSome a (λ xs. text ≡ take MAX_READ xs) → IfSome q (λ lines. HasEmptyReport text → RunsSafely entry lines text bytes status)
    → Appends w v bytes
    → IfSome a (λ xs. IfSome q (λ lines. HasEmptyReport xs → Writes (RunsSafely entry lines) xs w v status))
replay_safe entry = of_lines_safe (RunsSafely entry)

pub entry_lacks : (entry : List ℕ) (a : Option (List ℕ)) (text : List ℕ) → IfSome a (λ xs. text ≡ take MAX_READ xs) → LacksEntry text entry
    → IfSome a (λ xs. LacksEntry xs entry)
entry_lacks entry None text is lacks = tt
entry_lacks entry (Some x) text is lacks = of_front (λ t. LacksEntry t entry) MAX_TEXT MAX_READ refl
    (λ a b y z front. no_program a y front.has.resolved.parsed.tokens front.has.resolved.parsed.lexed) x
    (subst (λ t. LacksEntry t entry) is lacks)

line_front : (entry lines text : List ℕ) (n : ℕ) → LacksSchedule (take MAX_READ text) entry lines n → LacksSchedule text entry lines n
line_front entry lines text n = of_front (λ t. LacksSchedule t entry lines n) MAX_TEXT MAX_READ refl
    (λ a b y z front. no_program a y front.entered.has.resolved.parsed.tokens front.entered.has.resolved.parsed.lexed) text

pub line_lacks : (entry : List ℕ) (n : ℕ) (a q : Option (List ℕ)) (text : List ℕ) → IfSome a (λ xs. text ≡ take MAX_READ xs)
    → IfSome q (λ lines. LacksSchedule text entry lines n) → IfSome a (λ xs. IfSome q (λ lines. LacksSchedule xs entry lines n))
line_lacks entry n None q text is lacks = tt
line_lacks entry n (Some x) None text is lacks = tt
line_lacks entry n (Some x) (Some l) text is lacks = line_front entry l x n (subst (λ t. LacksSchedule t entry l n) is lacks)

-- an entry of the text is an entry of the bytes that are read
entry_back : {A : Type 0} (entry text : List ℕ) → (HasSomeEntry (take MAX_READ text) entry → A) → HasSomeEntry text entry → A
entry_back {A} entry text = of_front (λ t. HasSomeEntry t entry → A) MAX_TEXT MAX_READ refl
    (λ a b y z front has. no_program b z has.2.has.resolved.parsed.tokens has.2.has.resolved.parsed.lexed) text

pub where_entry : {A : Type 0} (entry : List ℕ) (a : Option (List ℕ)) (text : List ℕ) → IfSome a (λ xs. text ≡ take MAX_READ xs)
    → (HasSomeEntry text entry → A) → IfSome a (λ xs. HasSomeEntry xs entry → A)
where_entry entry None text is known = tt
where_entry {A} entry (Some x) text is known = entry_back entry x (subst (λ t. HasSomeEntry t entry → A) is known)

-- what holds of the bytes of a schedule that are read holds of the schedule
pub of_read : (P : List ℕ → Type 0) (q : Option (List ℕ)) (bytes : List ℕ) → ((xs : List ℕ) → P (take MAX_SCHEDULE_READ xs) → P xs)
    → IfSome q (λ xs. bytes ≡ take MAX_SCHEDULE_READ xs) → P bytes → IfSome q P
of_read P None bytes front is told = tt
of_read P (Some x) bytes front is told = front x (subst P is told)

pub some_map : (q : Option (List ℕ)) (P Q : List ℕ → Type 0) → ((xs : List ℕ) → P xs → Q xs) → IfSome q P → IfSome q Q
some_map None P Q more told = tt
some_map (Some x) P Q more told = more x told

-- what holds of every schedule
pub some_always : (q : Option (List ℕ)) (P : List ℕ → Type 0) → ((xs : List ℕ) → P xs) → IfSome q P
some_always None P all = tt
some_always (Some x) P all = all x

-- a world to which events lead is that of a run
pub run_of : (p : ProgramModel) (bound : QueueBounds) (n : ℕ) (events : List Event) (w : World) → RunsTo p bound (start_of p n) events w
    → Run p bound n w
run_of p bound n events w stays = begins
run_of p bound n events w (moves before v u e led moved) = goes_on v u e (run_of p bound n before v led) moved

-- a method with which a run may begin returns nothing and has no parameter
each_there : {A : Type 0} (P : A → Type 0) (xs : List A) (n : ℕ) (x : A) → Each P xs → slice_get xs n ≡ Some x → P x
each_there P [] n x all at = absurd (cc)
each_there P (y ∷ xs) zero x all at = let same : y ≡ x = cc in subst P same all.0
each_there P (y ∷ xs) (suc n) x all at = each_there P xs n x all.1 at

gives_nothing : (gives takes : Bool) → (not gives && not takes) ≡ true → gives ≡ false
gives_nothing true takes is = absurd (cc)
gives_nothing false takes is = refl

takes_nothing : (gives takes : Bool) → (not gives && not takes) ≡ true → takes ≡ false
takes_nothing true takes is = absurd (cc)
takes_nothing false true is = absurd (cc)
takes_nothing false false is = refl

entry_at : (p : ProgramModel) (n : ℕ) (o : Option MethodModel) → AreWellFormed p → Each IsBare p.methods
    → slice_get p.methods n ≡ o → IsSomeAnd o (λ m. is_entry m ≡ true) → IsEntry p n
entry_at p n None formed bare at is = absurd is
entry_at p n (Some m) formed bare at is = record {
  method = m;
  there = at;
  void = (each_there _ p.methods n m formed.methods_are at).void (gives_nothing m.gives m.takes is);
  alone = each_there IsBare p.methods n m bare at (takes_nothing m.gives m.takes is);
}

pub entry_is : (p : ProgramModel) → AreWellFormed p → Each IsBare p.methods → (n : ℕ) → BeginsWith p n
    → IsEntry p n
entry_is p formed bare n is = entry_at p n (slice_get p.methods n) formed bare refl is

-- the laws of runs: for a program in which nothing is found, and for every program
abbrev pub AreSafeAlways : Type 0
AreSafeAlways = (p : ProgramModel) (bound : QueueBounds) → AreWellFormed p → AreSound p → AreBounds p bound
    → NothingIsFound p → (n : ℕ) (w : World) → IsEntry p n → Run p bound n w → IsSafe p bound w

abbrev pub AreBoundedAlways : Type 0
AreBoundedAlways = (p : ProgramModel) (bound : QueueBounds) → AreWellFormed p → AreSound p → AreBounds p bound
    → (n : ℕ) (w : World) → Run p bound n w → IsBounded p bound w

-- what is known of the program of a text, and of runs
pub record KnownOf (text : List ℕ) : Type 0 where
  pub formed : (p : ProgramModel) → HasProgram text p → AreWellFormed p
  pub sound : (p : ProgramModel) → HasProgram text p → AreSound p
  pub bare : (p : ProgramModel) → HasProgram text p → Each IsBare p.methods
  pub bounds : (p : ProgramModel) → HasProgram text p → ((bound : QueueBounds) → AreBounds p bound → ⊥) → ⊥
  pub one : (p q : ProgramModel) → HasProgram text p → HasProgram text q → p ≡ q
  pub safe : AreSafeAlways
  pub bounded : AreBoundedAlways

-- if `check` finds nothing, nothing is found in the methods
pub none_found : (text : List ℕ) (p : ProgramModel) → KnownOf text → HasProgram text p → HasEmptyReport text → NothingIsFound p
none_found text p known has empty =
    let none = subst (λ (q : ProgramModel). (f : FindingModel) → IsWrong q f → ⊥)
    (known.one empty.1.program p empty.1.has has) empty.1.none in
    λ n lt. empty_verdict p n (λ f w. none f (n, lt, w))

-- the world after this many events of a replay keeps the bounds
bounded_run : (entry lines text bytes : List ℕ) (status : Status) → KnownOf text → (ran : IsRan entry lines text bytes status)
    → (bound : QueueBounds) → AreBounds ran.program bound → (k : ℕ) (w : World)
    → RunsTo ran.program bound (start_of ran.program ran.n) (take k ran.events) w → IsBounded ran.program bound w
bounded_run entry lines text bytes status known ran bound are k w led =
    let p = ran.program in
    let has = ran.entered.has in
    known.bounded p bound (known.formed p has) (known.sound p has) are ran.n w (run_of p bound ran.n (take k ran.events) w led)

-- the replay ends with the outcome of the next event in its last world
ends_at : (entry lines text bytes : List ℕ) (status : Status) (ran : IsRan entry lines text bytes status) (fault : Fault) (at : Place)
    → ran.halt ≡ Some (halt.Fault fault at) → (bound : QueueBounds) → (are : AreBounds ran.program bound)
    → EndsWith ran.program bound (ran.led bound are).world ran.events ran.steps (Some (halt.Fault fault at))
ends_at entry lines text bytes status ran fault at e bound are =
    let led = ran.led bound are in
    subst (EndsWith ran.program bound led.world ran.events ran.steps) e led.replayed.ends

-- if nothing is found, a replay does not stop with a fault
pub meets_none : (entry lines text bytes : List ℕ) (status : Status) → KnownOf text → HasEmptyReport text
    → (ran : IsRan entry lines text bytes status) → (fault : Fault) (at : Place) → ran.halt ≡ Some (halt.Fault fault at) → ⊥
meets_none entry lines text bytes status known empty ran fault at e =
    let p = ran.program in
    let has = ran.entered.has in
    known.bounds p has (λ bound are.
    let led = ran.led bound are in
    let run = run_of p bound ran.n (take ran.steps ran.events) led.world led.replayed.leads in
    let starts = entry_is p (known.formed p has) (known.bare p has) ran.n ran.entered.at.begins in
    let safe = known.safe p bound (known.formed p has) (known.sound p has) are (none_found text p known has empty) ran.n led.world starts run in
    let ends = ends_at entry lines text bytes status ran fault at e bound are in
    safe.no_fault ends.event fault ends.halts.0)

meets_no_overflow : (entry lines text bytes : List ℕ) (status : Status) → KnownOf text → (ran : IsRan entry lines text bytes status)
    → (at : Place) → ran.halt ≡ Some (halt.Fault F6 at) → ⊥
meets_no_overflow entry lines text bytes status known ran at e =
    known.bounds ran.program ran.entered.has (λ bound are.
    let led = ran.led bound are in
    let kept = bounded_run entry lines text bytes status known ran bound are ran.steps led.world led.replayed.leads in
    let ends = ends_at entry lines text bytes status ran F6 at e bound are in
    kept.fits ends.event ends.halts.0)

pub ran_safely : (entry lines text bytes : List ℕ) (status : Status) → KnownOf text → IsRan entry lines text bytes status
    → HasEmptyReport text → RunsSafely entry lines text bytes status
ran_safely entry lines text bytes status known ran empty =
    record { ran = ran; no_fault = meets_none entry lines text bytes status known empty ran }

pub ran_within_bounds : (entry lines text bytes : List ℕ) (status : Status) → KnownOf text → IsRan entry lines text bytes status
    → ReplaysWithinBounds entry lines text bytes status
ran_within_bounds entry lines text bytes status known ran = Kept (record {
  ran = ran;
  no_overflow = meets_no_overflow entry lines text bytes status known ran;
  bounded = bounded_run entry lines text bytes status known ran;
})
