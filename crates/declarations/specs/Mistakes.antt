-- Mistakes with names and types, and the finding for each.
use Rattle.std.specs.Prelude.{◌≡◌, ℕ, List, ◌++◌, codes}
use Rattle.std.specs.Str.Lossy.{utf8_lossy}
use Rattle.source.specs.Findings.{FindingModel}
use Rattle.source.specs.declared.finding.Code.{Code}
use Rattle.source.specs.declared.finding.Code.TheVariants.{N01, N02, N03, N04, N05, N06, N07, N08, N09}
use Rattle.source.specs.declared.place.Place.{Place}
use Rattle.source.specs.declared.token.Span.{Span}
use Rattle.program.specs.declared.limits.TheConstants.{MOST_CONTRACTS, MOST_FIELDS, MOST_METHODS, MOST_PARAMETERS}
use Rattle.program.specs.declared.limits.TheConstants.{MOST_STATES, MOST_VARIABLES}
use Rattle.declarations.specs.declared.mistake.Limit.{Limit}
use Rattle.declarations.specs.declared.mistake.Limit.TheVariants as limit
use Rattle.declarations.specs.declared.mistake.Mistake.{Mistake}
use Rattle.declarations.specs.declared.mistake.Mistake.TheVariants.{DeclaredTwice, Unknown, WrongType, WrongNumber, BreakOutside}
use Rattle.declarations.specs.declared.mistake.Mistake.TheVariants.{ContinueOutside, LimitPassed, NotStarted, CaseTwice, LacksClosed}
use Rattle.tables.specs.Words.{word_at}

-- the greatest number that a limit allows
abbrev pub most_of : Limit → ℕ
most_of limit.Contracts = MOST_CONTRACTS
most_of limit.States = MOST_STATES
most_of limit.Parameters = MOST_PARAMETERS
most_of limit.Fields = MOST_FIELDS
most_of limit.Methods = MOST_METHODS
most_of limit.Variables = MOST_VARIABLES

-- a finding of this code and text at a place
abbrev pub plain : Code → List ℕ → Place → FindingModel
plain code text place = record { place = place; code = code; text = text }

-- a finding at a name, whose text begins with that name
abbrev pub finding_of_name : List ℕ → Code → Span → List ℕ → FindingModel
finding_of_name text code name rest = plain code (utf8_lossy (word_at text name) ++ rest) name.place

-- the finding for a case that an earlier one repeats
abbrev pub case_twice : List ℕ → Span → Span → FindingModel
case_twice text endpoint awaited = plain N08
    (codes "case " ++ (utf8_lossy (word_at text endpoint) ++ (codes "." ++ (utf8_lossy (word_at text awaited) ++ codes " twice"))))
    endpoint.place

-- the finding for a mistake in this text
abbrev pub finding_in : List ℕ → Mistake → FindingModel
finding_in text (DeclaredTwice name first) = finding_of_name text N01 name (codes " declared twice")
finding_in text (Unknown name sort) = finding_of_name text N02 name (codes " unknown")
finding_in text (WrongType place mismatch) = plain N03 (codes "wrong type") place
finding_in text (WrongNumber place asked given) = plain N04 (codes "wrong number of arguments") place
finding_in text (BreakOutside place) = plain N05 (codes "break outside") place
finding_in text (ContinueOutside place) = plain N05 (codes "continue outside") place
finding_in text (LimitPassed place limit) = plain N06 (codes "limit passed") place
finding_in text (NotStarted name) = finding_of_name text N07 name (codes " cannot be started")
finding_in text (CaseTwice endpoint awaited) = case_twice text endpoint awaited
finding_in text (LacksClosed name) = finding_of_name text N09 name (codes " lacks ChannelClosed")

-- the new list is the old one with these mistakes after it
pub record Adds (old new : List Mistake) (more : List Mistake) : Type 0 where
  pub all : new ≡ old ++ more
