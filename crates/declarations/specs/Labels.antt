-- Names of states, one after another in a string.
use Rattle.std.specs.Prelude.{◌≡◌, ℕ, List, ◌++◌, codes, map}
use Rattle.source.specs.Slices.{slice_of}
use Rattle.source.specs.declared.token.Span.{Span}
use Rattle.program.specs.declared.contract.Part.{Part}
use Rattle.declarations.specs.Resolution.{printed_name}
use Rattle.declarations.specs.declared.labels.Labels.{Labels}
use Rattle.tables.specs.Tables.{IsTable}
use Rattle.tables.specs.Words.{words_at}

-- the name of a message, in parentheses
abbrev pub in_parentheses : List ℕ → Span → List ℕ
in_parentheses text message = codes "(" ++ (printed_name text message ++ codes ")")

-- the bytes of a part
abbrev pub part_of : List ℕ → Part → List ℕ
part_of names part = slice_of names part.start part.end

-- the word is at this part of the names, whatever is appended to them
abbrev pub Stands : List ℕ → Part → List ℕ → Type 0
Stands names part word = (behind : List ℕ) → part_of (names ++ behind) part ≡ word

-- the new names are the old ones with more after them, if anything, and the word is at this part of them
pub record IsTold (old new : List ℕ) (part : Part) (word : List ℕ) : Type 0 where
  pub more : List ℕ
  pub grown : new ≡ old ++ more
  pub stands : Stands new part word

-- its table is that of some messages, and its parts are these messages in parentheses, whatever is appended to the names
pub record AreLabels (labels : Labels) (names : List ℕ) : Type 0 where
  pub messages : List Span
  pub table : IsTable (words_at labels.text.now messages) labels.messages.now
  pub each : (behind : List ℕ) → map (part_of (names ++ behind)) labels.by_message.items ≡ map (in_parentheses labels.text.now) messages
