-- Journals with one more event.
use Rattle.std.proofs.Common.{◌≡◌, ◌+◌, ◌++◌, ◌∷◌, [], ℕ, List, false, subst, sym, ◌∙◌, ap, Result, Ok, Err}
use Rattle.std.specs.Prelude.{IfErr, IsErrAnd, OnOk}
use Rattle.std.specs.Result.{is_err}
use Rattle.program.specs.Programs.{ProgramModel}
use Rattle.machine.specs.Machine.{event_outcome}
use Rattle.machine.specs.Outcomes.{QueueBounds, Moved, TellsStep}
use Rattle.machine.specs.Places.{process_place}
use Rattle.machine.specs.Runs as runs
use Rattle.machine.specs.Runs.{AreBounds, RunsTo}
use Rattle.machine.specs.World.{World}
use Rattle.machine.specs.declared.halts.Event.{Event}
use Rattle.machine.specs.declared.halts.Halt.{Halt}
use Rattle.machine.specs.declared.halts.Halt.TheVariants as halt
use Rattle.replays.specs.EventLines.{TraceWords, conditions_in, event_line}
use Rattle.replays.specs.Journals.{HasLines, IsNoStep, moves, stays}

-- a journal without events
pub none : (t : TraceWords) (bound : QueueBounds) (begins world : World) (events : List Event) (lines : List ℕ)
    → events ≡ [] → world ≡ begins → lines ≡ [] → HasLines t bound begins events world lines 0
none t bound begins world events lines no_events same no_lines =
    subst (λ (es : List Event). HasLines t bound begins es world lines 0) (sym no_events)
    (subst (λ (w : World). HasLines t bound begins [] w lines 0) (sym same)
    (subst (λ (l : List ℕ). HasLines t bound begins [] begins l 0) (sym no_lines) stays))

-- one more event
pub one_more : (t : TraceWords) (bound : QueueBounds) (begins v u : World) (events after : List Event) (e : Event) (lines line longer : List ℕ) (n m : ℕ)
    → HasLines t bound begins events v lines n → event_outcome t.words.program bound v e ≡ Moved u → after ≡ events ++ e ∷ [] → line ≡ event_line t v e
    → longer ≡ lines ++ line → m ≡ n + conditions_in t.words.program v e.process → HasLines t bound begins after u longer m
one_more t bound begins v u events after e lines line longer n m has moved is line_is longer_is counts =
    subst (λ (es : List Event). HasLines t bound begins es u longer m) (sym is)
    (subst (λ (l : List ℕ). HasLines t bound begins (events ++ e ∷ []) u l m) (sym (longer_is ∙ ap (λ x. lines ++ x) line_is))
    (subst (λ (k : ℕ). HasLines t bound begins (events ++ e ∷ []) u (lines ++ event_line t v e) k) (sym counts) (moves events v u e lines n has moved)))

-- what holds of a result that is no error
pub of_ok : (X E A : Type 0) (r : Result X E) → is_err r ≡ false → OnOk r A → A
of_ok X E A (Ok x) fine a = a
of_ok X E A (Err e) fine a = absurd (cc)

-- a step that is refused was none, for the reason that is passed on
pub passed_refusal : (X : Type 0) (r : Result X Halt) (x : Halt) (p : ProgramModel) (w after : World) (e : Event) → IsErrAnd r (λ h. h ≡ x)
    → after ≡ w → ((bound : QueueBounds) → AreBounds p bound
    → TellsStep {X = Unit {0}} (Err x) (event_outcome p bound w e) (process_place p w e.process) after)
    → IfErr r (λ why. (why ≡ halt.Memory → ⊥) → IsNoStep p after e why)
passed_refusal X (Ok u) x p w after e passed same tells = absurd passed
passed_refusal X (Err h) x p w after e passed same tells = λ some bound are.
    subst (λ y. TellsStep {X = Unit {0}} (Err y) (event_outcome p bound after e) (process_place p after e.process) after) (sym passed)
    (subst (λ v. TellsStep {X = Unit {0}} (Err x) (event_outcome p bound v e) (process_place p v e.process) after) (sym same) (tells bound are))

-- the events of lines lead from one world to the other
pub run_of : (t : TraceWords) (bound : QueueBounds) (w v : World) (events : List Event) (lines : List ℕ) (conditions : ℕ)
    → HasLines t bound w events v lines conditions → RunsTo t.words.program bound w events v
run_of t bound w v events lines conditions stays = runs.stays
run_of t bound w v events lines conditions (moves before from to e some few led moved) =
    runs.moves before from to e (run_of t bound w from before some few led) moved
