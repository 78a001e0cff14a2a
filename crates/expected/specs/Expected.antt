-- The kinds of tokens with which a program could continue.
use Rattle.std.specs.Prelude.{◌≡◌, ◌++◌, ◌∷◌, [], ℕ, List, Bool, take, filter}
use Rattle.source.specs.declared.kind.Kind.{Kind}
use Rattle.source.specs.declared.token.Span.{Span}
use Rattle.source.specs.declared.token.Token.{Token}
use Rattle.tree.specs.Programs.{program}
use Rattle.tree.specs.Spelled.{whole}
use Rattle.tree.specs.Symbols.{symbols, seen_as}
use Rattle.syntax.specs.Parsing.{Viable}

-- Some program begins with the first `count` tokens, and then one of this kind at this span.
abbrev pub IsExpected : List Token → ℕ → Span → Kind → Type 0
IsExpected tokens count at kind = Viable (whole program) (take count (symbols tokens) ++ seen_as kind at ∷ [])

-- some of these kinds, in their order
abbrev pub IsSublist : List Kind → List Kind → Type 0
IsSublist some all = (test : Kind → Bool) × (some ≡ filter test all)
