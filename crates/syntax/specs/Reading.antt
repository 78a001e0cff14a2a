-- What it means to read a part of the grammar, or to fail at the first symbol with which it cannot continue.
use Rattle.std.specs.Prelude.{◌≡◌, map, Vec, Bool, true, false, ◌||◌, Option, Some, None, List, [], ◌∷◌, ◌++◌, Result, Ok, Err}
use Rattle.std.specs.List.{flat_map}
use Rattle.std.specs.Global.{Global}
use Rattle.source.specs.declared.kind.Kind.{Kind}
use Rattle.source.specs.declared.kind.Kind.TheVariants.{Comma}
use Rattle.tree.specs.Symbols.{Symbol, is_kind, by_kind}
use Rattle.source.specs.declared.token.Span.{Span}
use Rattle.tree.specs.Spelling.{word, token_at, optional}
use Rattle.syntax.specs.declared.cursor.Stuck.{Stuck}
use Rattle.syntax.specs.declared.cursor.Stuck.TheVariants.{Unexpected, Memory}

-- no symbol, for a part that cannot continue
abbrev pub never : Symbol → Bool
never y = false

-- the next symbol, if there is one, is not among these
abbrev pub Stops : (Symbol → Bool) → List Symbol → Type 0
Stops on [] = Unit {0}
Stops on (y ∷ ys) = on y ≡ false

-- whether the next symbol is among these
abbrev pub leads : (Symbol → Bool) → List Symbol → Bool
leads on [] = false
leads on (y ∷ ys) = on y

-- no part agrees with these symbols, whatever follows either
abbrev pub Rejects : {X : Type 0} → (X → List Symbol) → (Symbol → Bool) → List Symbol → Type 0
Rejects {X} spell on front = (x : X) (r s : List Symbol) → Stops on r → spell x ++ r ≡ front ++ s → ⊥

-- Some symbols begin a part, and no part continues with the next one.
pub record Fails {X : Type 0} (spell : X → List Symbol) (on : Symbol → Bool) (old new : List Symbol) : Type 0 where
  pub front : List Symbol
  pub next : Symbol
  pub rest : List Symbol
  pub old_is : old ≡ front ++ next ∷ rest
  pub new_is : new ≡ next ∷ rest
  pub piece : X
  pub more : List Symbol
  pub begins : spell piece ≡ front ++ more
  pub rejects : Rejects spell on (front ++ next ∷ [])

-- the fact if a token is wrong, and nothing if out of memory
abbrev pub AtFault : Stuck → Type 0 → Type 0
AtFault Unexpected P = P
AtFault Memory P = Unit {0}

-- the symbols with which the last of some parts could continue
abbrev pub last_at : {X : Type 0} → (X → Symbol → Bool) → List X → Symbol → Bool
last_at at [] = never
last_at at (x ∷ []) = at x
last_at at (x ∷ y ∷ xs) = last_at at (y ∷ xs)

-- the symbols with which a sequence of parts could continue: those of its last part, and those that begin another
abbrev pub many_at : {X : Type 0} → (Symbol → Bool) → (X → Symbol → Bool) → List X → Symbol → Bool
many_at starts at xs y = last_at at xs y || starts y

-- the symbols with which an option could continue: if it is absent, those that begin it
abbrev pub optional_at : {X : Type 0} → (Symbol → Bool) → (X → Symbol → Bool) → Option X → Symbol → Bool
optional_at starts at None = starts
optional_at starts at (Some x) = at x

-- the same, if the tree keeps only whether it is present
abbrev pub when_at : (Symbol → Bool) → Bool → Symbol → Bool
when_at starts true = never
when_at starts false = starts

-- the symbols with which some list with commas could continue
abbrev pub listed_on : (Symbol → Bool) → Symbol → Bool
listed_on starts y = starts y || is_kind Comma y

-- the symbols with which this list could continue
abbrev pub listed_at : {X : Type 0} → (Symbol → Bool) → List X → Symbol → Bool
listed_at starts [] = starts
listed_at starts (x ∷ xs) = is_kind Comma

-- the same for a list whose parts could continue themselves
abbrev pub listed_open_on : (Symbol → Bool) → (Symbol → Bool) → Symbol → Bool
listed_open_on starts f y = starts y || (f y || is_kind Comma y)

-- the symbols with which this list could continue
abbrev pub listed_open_at : {X : Type 0} → (Symbol → Bool) → (X → Symbol → Bool) → List X → Symbol → Bool
listed_open_at starts at [] = starts
listed_open_at starts at (x ∷ xs) = many_at (is_kind Comma) at (x ∷ xs)

-- the symbols with which an option could continue; if it is absent, also those of what is before it
abbrev pub open_at : (Symbol → Bool) → (Symbol → Bool) → Bool → Symbol → Bool
open_at before starts true = never
open_at before starts false = λ y. before y || starts y

-- A part is read, and it does not continue with the next symbol. `at` gives the symbols with which it could.
abbrev pub Takes : {Y : Type 0} → (Y → List Symbol) → (Y → Symbol → Bool) → List Symbol → List Symbol → Y → Type 0
Takes spell at old new y = (old ≡ spell y ++ new) × Stops (at y) new

-- What a function that reads a part returns, seen through `view`, and what it leaves. `on` gives the symbols with
-- which some part could continue, `at` those with which this one could.
abbrev pub Reads : {X Y : Type 0} → (X → Y) → (Y → List Symbol) → (Symbol → Bool) → (Y → Symbol → Bool) → List Symbol → List Symbol
    → Result X Stuck → Type 0
Reads view spell on at old new (Ok x) = Takes spell at old new (view x)
Reads view spell on at old new (Err fault) = AtFault fault (Fails spell on old new)

-- What a function that reads a part with an end of its own returns.
abbrev pub ReadsEnded : {X Y : Type 0} → (X → Y) → (Y → List Symbol) → List Symbol → List Symbol → Result X Stuck → Type 0
ReadsEnded view spell old new result = Reads view spell never (λ _. never) old new result

-- What a function that reads one of several words returns.
abbrev pub ReadsWord : {X : Type 0} → (X → Kind) → List Symbol → List Symbol → Result X Stuck → Type 0
ReadsWord word_of old new result = ReadsEnded (λ x. x) (λ x. word (word_of x)) old new result

-- the same for a word whose span is kept
abbrev pub ReadsMark : {X : Type 0} → (X → Kind) → List Symbol → List Symbol → Result (X × Span) Stuck → Type 0
ReadsMark word_of old new result = ReadsEnded (λ p. p) (λ p. token_at (word_of p.0) p.1) old new result

-- What a function that reads an optional part returns: nothing if the next token does not begin it.
abbrev pub ReadsOption : {X : Type 0} → (X → List Symbol) → (Option Kind → Bool) → List Symbol → List Symbol → Result (Option X) Stuck
    → Type 0
ReadsOption spell opens old new result =
    Reads (λ x. x) (optional spell) (by_kind opens) (optional_at (by_kind opens) (λ _. never)) old new result

-- What a function that reads parts as long as the next token begins one returns.
abbrev pub ReadsList : {X Y : Type 0} → (X → Y) → (Y → List Symbol) → (Option Kind → Bool) → List Symbol → List Symbol
    → Result (Vec X Global) Stuck → Type 0
ReadsList view spell opens old new result =
    Reads (λ v. map view v.items) (flat_map spell) (by_kind opens) (λ _. by_kind opens) old new result
