-- The braces that are open after some tokens.
use Rattle.std.specs.Prelude.{List, [], ◌∷◌, drop}
use Rattle.source.specs.declared.kind.Kind.{Kind}
use Rattle.source.specs.declared.kind.Kind.TheVariants.{OpenBrace, CloseBrace}
use Rattle.source.specs.declared.token.Span.{Span}
use Rattle.source.specs.declared.token.Token.{Token}

-- The open braces after a token, innermost first, from those open before it: a closing brace closes the innermost,
-- if any.
abbrev pub brace_turn : Kind → Span → List Span → List Span
brace_turn OpenBrace span outer = span ∷ outer
brace_turn CloseBrace span outer = drop 1 outer
brace_turn _ span outer = outer

-- the braces that are open after these tokens, from those open before them
abbrev pub open_braces : List Span → List Token → List Span
open_braces outer [] = outer
open_braces outer (t ∷ ts) = open_braces (brace_turn t.kind t.span outer) ts
