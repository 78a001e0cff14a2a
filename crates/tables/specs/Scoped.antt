-- Names in scope.
use Rattle.std.specs.Prelude.{ℕ, List, map, Option}
use Rattle.std.specs.Map.{lookup}
use Rattle.source.specs.declared.token.Span.{Span}
use Rattle.tables.specs.Words.{same_word, word_at}
use Rattle.tables.specs.declared.scoped_names.ScopedNames.{ScopedNames}
use Rattle.tables.specs.declared.word.Word.{Word}

-- the names in scope, in order of declaration, each with what it means
abbrev pub entries_of : {T : Type 0} → ScopedNames T → List (List ℕ × T)
entries_of {T} names = map (λ (e : Word × T). (e.0.bytes.now, e.1)) names.names.entries

-- what a name means among these, if it is one of them
abbrev pub meaning_of : {T : Type 0} → List (List ℕ × T) → List ℕ → Option T
meaning_of names name = lookup (same_word name) names

-- these declarations, each with its name as a text has it and with what it means
abbrev pub declared_in : {X T : Type 0} → List ℕ → (X → Span) → (X → T) → List X → List (List ℕ × T)
declared_in {X} text name meaning xs = map (λ (x : X). (word_at text (name x), meaning x)) xs
