-- Mistakes with names in a list: declared twice, past a limit, or not declared.
use Rattle.std.specs.Prelude.{ℕ, List, [], ◌∷◌, ◌++◌, Option, None, option_and_then, slice_get, if◌then◌else◌}
use Rattle.std.specs.Option.{option_map_or}
use Rattle.source.specs.declared.token.Span.{Span}
use Rattle.declarations.specs.Declarations.{first_among, is_declared}
use Rattle.declarations.specs.Mistakes.{most_of}
use Rattle.declarations.specs.declared.mistake.Limit.{Limit}
use Rattle.declarations.specs.declared.mistake.Mistake.{Mistake}
use Rattle.declarations.specs.declared.mistake.NameSort.{NameSort}
use Rattle.declarations.specs.declared.mistake.NameSort.TheVariants as sort
use Rattle.declarations.specs.declared.mistake.Mistake.TheVariants.{DeclaredTwice, LimitPassed, Unknown}

-- the first of these names that is written like `name`
abbrev pub name_among : List ℕ → List Span → Span → Option Span
name_among text names name = option_and_then (slice_get names) (first_among text names name)

-- a name that is declared twice, if an earlier one is the same
abbrev pub twice : Span → Option Span → List Mistake
twice name earlier = option_map_or (λ first. DeclaredTwice name first.place ∷ []) earlier []

-- the names in a list that are declared twice, in it or among those before
abbrev pub twice_behind : List ℕ → List Span → List Span → List Mistake
twice_behind text before [] = []
twice_behind text before (name ∷ names) = twice name (name_among text before name) ++ twice_behind text (before ++ name ∷ []) names

-- the names in a list that are declared twice
abbrev pub twice_among : List ℕ → List Span → List Mistake
twice_among text names = twice_behind text [] names

-- a limit that is passed at this name
abbrev pub limit_passed : Limit → Span → List Mistake
limit_passed limit name = LimitPassed name.place limit ∷ []

-- the first name past the limit, if the list goes past it
abbrev pub past_limit : Limit → List Span → List Mistake
past_limit limit names = option_map_or (limit_passed limit) (slice_get names (most_of limit)) []

-- a name that is not declared, unless it is among these
abbrev pub asked_name : NameSort → List ℕ → List Span → Span → List Mistake
asked_name sort text declared name = if is_declared text declared name then [] else Unknown name sort ∷ []

-- a message that its contract does not declare, unless it is among these
abbrev pub asked_message : List ℕ → List Span → Span → List Mistake
asked_message = asked_name (sort.Message None)

-- a state that its contract does not declare, unless it is among these
abbrev pub asked_state : List ℕ → List Span → Span → List Mistake
asked_state = asked_name (sort.State None)
