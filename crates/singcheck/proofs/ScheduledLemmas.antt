-- What is written for the bytes that are read of a text, if a schedule is read too.
use Rattle.std.proofs.Common.{◌≡◌, List, ℕ, None, Option, Some, refl, subst, take}
use Rattle.std.specs.Prelude.{IfSome}
use Rattle.std.specs.Io.KnownBytes.{Appends}
use Rattle.source.specs.declared.lexer.TheConstants.{MAX_TEXT}
use Rattle.devices.specs.Devices.{TakesBeginning}
use Rattle.devices.specs.Runs.{BeginsAnswer, Writes}
use Rattle.devices.specs.declared.fault.Status.{Status}
use Rattle.devices.specs.declared.reading.TheConstants.{MAX_READ}
use Rattle.singcheck.specs.Safety.{HasEmptyReport}
use Rattle.singcheck.proofs.LongLemmas.{IsOfFront, no_program, of_front}
use Rattle.singcheck.proofs.Texts.{begins_is, writes_is}

-- an answer to a schedule, a text, bytes and a status, which is the same for the bytes of the text that are read
module _ (answer : List ℕ → List ℕ → List ℕ → Status → Type 0) (front : (lines : List ℕ) → IsOfFront (answer lines) MAX_READ) where
  pub of_lines_written : (a q w v : Option (List ℕ)) (text bytes : List ℕ) (status : Status) → IfSome a (λ xs. text ≡ take MAX_READ xs)
      → IfSome q (λ lines. answer lines text bytes status) → Appends w v bytes
      → IfSome a (λ xs. IfSome q (λ lines. Writes (answer lines) xs w v status))
  of_lines_written None q w v text bytes status is answers done = tt
  of_lines_written (Some x) None w v text bytes status is answers done = tt
  of_lines_written (Some x) (Some l) w v text bytes status is answers done =
      writes_is (answer l) (Some x) w v text bytes status MAX_READ (front l) is answers done

  pub of_lines_begun : (a q w v : Option (List ℕ)) (text bytes : List ℕ) (status : Status) → IfSome a (λ xs. text ≡ take MAX_READ xs)
      → IfSome q (λ lines. answer lines text bytes status) → TakesBeginning w v bytes
      → IfSome a (λ xs. IfSome q (λ lines. BeginsAnswer (answer lines) xs w v))
  of_lines_begun None q w v text bytes status is answers begun = tt
  of_lines_begun (Some x) None w v text bytes status is answers begun = tt
  of_lines_begun (Some x) (Some l) w v text bytes status is answers begun =
      begins_is (answer l) (Some x) w v text bytes status MAX_READ (front l) is answers begun

-- a text that is too long has no empty report
pub empty_front : (answer : List ℕ → Type 0) (text : List ℕ) → (HasEmptyReport (take MAX_READ text) → answer (take MAX_READ text))
    → HasEmptyReport text → answer text
empty_front answer text = of_front (λ t. HasEmptyReport t → answer t) MAX_TEXT MAX_READ refl
    (λ a b x y front empty. no_program b y empty.1.has.resolved.parsed.tokens empty.1.has.resolved.parsed.lexed) text

pub of_lines_safe : (answer : List ℕ → List ℕ → List ℕ → Status → Type 0) (a q w v : Option (List ℕ)) (text bytes : List ℕ) (status : Status)
    → IfSome a (λ xs. text ≡ take MAX_READ xs) → IfSome q (λ lines. HasEmptyReport text → answer lines text bytes status) → Appends w v bytes
    → IfSome a (λ xs. IfSome q (λ lines. HasEmptyReport xs → Writes (answer lines) xs w v status))
of_lines_safe answer None q w v text bytes status is answers done = tt
of_lines_safe answer (Some x) None w v text bytes status is answers done = tt
of_lines_safe answer (Some x) (Some l) w v text bytes status is answers done = λ empty. record {
  bytes = bytes;
  answers = empty_front (λ t. answer l t bytes status) x (subst (λ t. HasEmptyReport t → answer l t bytes status) is answers) empty;
  written = done;
}
