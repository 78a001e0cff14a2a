-- A replay with a line for each event, from what is read to what is written; and why it meets no fault if nothing is found.
use Rattle.std.proofs.Common.{◌≡◌, List, ℕ, Option, refl, take}
use Rattle.std.specs.Prelude.{IfSome}
use Rattle.std.specs.Io.KnownBytes.{Appends}
use Rattle.source.specs.declared.lexer.TheConstants.{MAX_TEXT}
use Rattle.replays.specs.declared.detail.Detail.{Detail}
use Rattle.devices.specs.Devices.{TakesBeginning}
use Rattle.devices.specs.Runs.{BeginsAnswer, Writes}
use Rattle.devices.specs.declared.fault.Status.{Status}
use Rattle.devices.specs.declared.fault.Status.TheVariants.{Found}
use Rattle.devices.specs.declared.reading.TheConstants.{MAX_READ}
use Rattle.singcheck.specs.Safety.{HasEmptyReport}
use Rattle.singcheck.specs.TracedReplays.{IsTraced, OfFindings, OfTrace, Traces, TracesSafely}
use Rattle.singcheck.proofs.LongLemmas.{AreLong, IsOfFront, answers_long, no_program, of_front}
use Rattle.singcheck.proofs.ReplayLemmas.{KnownOf, meets_none}
use Rattle.singcheck.proofs.ScheduledLemmas.{of_lines_begun, of_lines_safe, of_lines_written}

-- the result for the bytes of a text that are read is the result for the text
traces_long : (entry : List ℕ) (detail : Detail) (lines text other bytes : List ℕ) (status : Status) → AreLong text other
    → Traces entry detail lines text bytes status → Traces entry detail lines other bytes status
traces_long entry detail lines text other bytes status long (OfFindings told is) = OfFindings (answers_long text other bytes Found long told) is
traces_long entry detail lines text other bytes status long (OfTrace traced) =
    no_program text long.one traced.ran.entered.has.resolved.parsed.tokens traced.ran.entered.has.resolved.parsed.lexed

traces_of_front : (entry : List ℕ) (detail : Detail) (lines : List ℕ) → IsOfFront (Traces entry detail lines) MAX_READ
traces_of_front entry detail lines = record {
  whole = λ text bytes status. of_front (λ t. Traces entry detail lines t bytes status) MAX_TEXT MAX_READ refl
      (λ a b x y. traces_long entry detail lines a b bytes status (record { one = x; two = y })) text;
}

pub trace_written : (entry : List ℕ) (detail : Detail) (a q w v : Option (List ℕ)) (text bytes : List ℕ) (status : Status)
    → IfSome a (λ xs. text ≡ take MAX_READ xs) → IfSome q (λ lines. Traces entry detail lines text bytes status) → Appends w v bytes
    → IfSome a (λ xs. IfSome q (λ lines. Writes (Traces entry detail lines) xs w v status))
trace_written entry detail = of_lines_written (Traces entry detail) (traces_of_front entry detail)

pub trace_begun : (entry : List ℕ) (detail : Detail) (a q w v : Option (List ℕ)) (text bytes : List ℕ) (status : Status)
    → IfSome a (λ xs. text ≡ take MAX_READ xs) → IfSome q (λ lines. Traces entry detail lines text bytes status) → TakesBeginning w v bytes
    → IfSome a (λ xs. IfSome q (λ lines. BeginsAnswer (Traces entry detail lines) xs w v))
trace_begun entry detail = of_lines_begun (Traces entry detail) (traces_of_front entry detail)

pub trace_safe : (entry : List ℕ) (detail : Detail) (a q w v : Option (List ℕ)) (text bytes : List ℕ) (status : Status)
    → IfSome a (λ xs. text ≡ take MAX_READ xs) → IfSome q (λ lines. HasEmptyReport text → TracesSafely entry detail lines text bytes status)
    → Appends w v bytes
    → IfSome a (λ xs. IfSome q (λ lines. HasEmptyReport xs → Writes (TracesSafely entry detail lines) xs w v status))
trace_safe entry detail = of_lines_safe (TracesSafely entry detail)

pub traced_safely : (entry : List ℕ) (detail : Detail) (lines text bytes : List ℕ) (status : Status) → KnownOf text
    → IsTraced entry detail lines text bytes status → HasEmptyReport text → TracesSafely entry detail lines text bytes status
traced_safely entry detail lines text bytes status known traced empty =
    record { traced = traced; no_fault = meets_none entry lines text traced.replayed status known empty traced.ran }
