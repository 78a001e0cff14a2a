-- A part between brackets: "{" a "}", in which the second keeps its place, "(" a ")", in which the first does, and
-- "[" a "]".
use Rattle.std.proofs.Common.{◌≡◌, Bool, false, List, ◌∷◌, ◌++◌, refl}
use Rattle.source.specs.declared.kind.Kind.TheVariants.{OpenBrace, CloseBrace, OpenParen, CloseParen, OpenBracket, CloseBracket}
use Rattle.source.specs.declared.token.Span.{Span}
use Rattle.tree.specs.Symbols.{Symbol, Fixed, Placed}
use Rattle.tree.specs.Spelling.{token_at, within, in_braces, parens}
use Rattle.syntax.specs.Reading.{never, Stops, Fails}
use Rattle.syntax.proofs.pieces.Pieces.{ReadsOneWay, Piece, Follows, Meets, both_way, both_piece, via_way, via_fails, fails_first, fails_second, fails_here, fails_after, ends, meets}
use Rattle.syntax.proofs.pieces.CursorLemmas.{fixed, fixed_piece, placed_piece}

-- such a part does not continue with "}"
pub record InBraces {X : Type 0} (a : X → List Symbol) (f : Symbol → Bool) (at : X → Symbol → Bool) : Type 0 where
  pub on : (span : Span) → f (Placed CloseBrace span) ≡ false
  pub here : (x : X) (span : Span) → at x (Placed CloseBrace span) ≡ false

abbrev to : {X : Type 0} → X × Span → Unit {0} × (X × Span)
to p = (tt, p)

abbrev from : {X : Type 0} → Unit {0} × (X × Span) → X × Span
from p = p.1

module _ {X : Type 0} {a : X → List Symbol} {f : Symbol → Bool} {at : X → Symbol → Bool} (inside : InBraces a f at) where
  follows : Follows f (token_at CloseBrace) never
  follows = record { each = λ span r h. inside.on span }

  meet : Meets at (token_at CloseBrace) (λ _. never)
  meet = record { here = λ x span r h. inside.here x span }

  pub braced_way : {x : X} {span : Span} → ReadsOneWay a f at x → ReadsOneWay (in_braces a) never (λ _. never) (x, span)
  braced_way {x} {span} way = via_way to from (λ _. refl) (both_way ((fixed_piece OpenBrace).each tt) (both_way way ((placed_piece CloseBrace).each span) follows meet) ends meets)

  pub braced_piece : Piece a f at → Piece (in_braces a) never (λ _. never)
  braced_piece piece = record { some = (piece.some, (placed_piece CloseBrace).some); each = λ p. braced_way (piece.each p.0) }

  pub braced_open_fails : {old new : List Symbol} → Piece a f at → Fails (fixed OpenBrace) never old new → Fails (in_braces a) never old new
  braced_open_fails {old} {new} piece h = via_fails to from (λ _. refl) (fails_here h (both_piece piece (placed_piece CloseBrace) follows meet))

  pub braced_fails : {old mid new : List Symbol} → (old ≡ Fixed OpenBrace ∷ mid) × Stops never mid → Fails a f mid new → Fails (in_braces a) never old new
  braced_fails {old} {mid} {new} read h = via_fails to from (λ _. refl) (fails_after tt (fixed_piece OpenBrace) read (fails_first h (placed_piece CloseBrace) follows))

  pub braced_close_fails : {old mid last new : List Symbol} (x : X) → Piece a f at → (old ≡ Fixed OpenBrace ∷ mid) × Stops never mid → (mid ≡ a x ++ last) × Stops (at x) last → Fails (token_at CloseBrace) never last new → Fails (in_braces a) never old new
  braced_close_fails {old} {mid} {last} {new} x piece read inner h = via_fails to from (λ _. refl) (fails_after tt (fixed_piece OpenBrace) read (fails_second x piece inner follows h))

-- such a part does not continue with ")"
pub record InParens {X : Type 0} (a : X → List Symbol) (f : Symbol → Bool) (at : X → Symbol → Bool) : Type 0 where
  pub on : f (Fixed CloseParen) ≡ false
  pub here : (x : X) → at x (Fixed CloseParen) ≡ false

abbrev out : {X : Type 0} → Span × X → Span × (X × Unit {0})
out p = (p.0, (p.1, tt))

abbrev back : {X : Type 0} → Span × (X × Unit {0}) → Span × X
back p = (p.0, p.1.0)

module _ {X : Type 0} {a : X → List Symbol} {f : Symbol → Bool} {at : X → Symbol → Bool} (inside : InParens a f at) where
  before : Follows f (fixed CloseParen) never
  before = record { each = λ u r h. inside.on }

  apart : Meets at (fixed CloseParen) (λ _. never)
  apart = record { here = λ x u r h. inside.here x }

  pub parens_way : {x : X} {span : Span} → ReadsOneWay a f at x → ReadsOneWay (parens a) never (λ _. never) (span, x)
  parens_way {x} {span} way = via_way out back (λ _. refl) (both_way ((placed_piece OpenParen).each span) (both_way way ((fixed_piece CloseParen).each tt) before apart) ends meets)

  pub parens_piece : Piece a f at → Piece (parens a) never (λ _. never)
  parens_piece piece = record { some = ((placed_piece OpenParen).some, piece.some); each = λ p. parens_way (piece.each p.1) }

  pub parens_open_fails : {old new : List Symbol} → Piece a f at → Fails (token_at OpenParen) never old new → Fails (parens a) never old new
  parens_open_fails {old} {new} piece h = via_fails out back (λ _. refl) (fails_here h (both_piece piece (fixed_piece CloseParen) before apart))

  pub parens_fails : {old mid new : List Symbol} (span : Span) → (old ≡ token_at OpenParen span ++ mid) × Stops never mid → Fails a f mid new → Fails (parens a) never old new
  parens_fails {old} {mid} {new} span read h = via_fails out back (λ _. refl) (fails_after span (placed_piece OpenParen) read (fails_first h (fixed_piece CloseParen) before))

  pub parens_close_fails : {old mid last new : List Symbol} (span : Span) (x : X) → Piece a f at → (old ≡ token_at OpenParen span ++ mid) × Stops never mid → (mid ≡ a x ++ last) × Stops (at x) last → Fails (fixed CloseParen) never last new → Fails (parens a) never old new
  parens_close_fails {old} {mid} {last} {new} span x piece read inner h = via_fails out back (λ _. refl) (fails_after span (placed_piece OpenParen) read (fails_second x piece inner before h))

-- such a part does not continue with "]"
pub record InBrackets {X : Type 0} (a : X → List Symbol) (f : Symbol → Bool) (at : X → Symbol → Bool) : Type 0 where
  pub on : f (Fixed CloseBracket) ≡ false
  pub here : (x : X) → at x (Fixed CloseBracket) ≡ false

abbrev inner : {X : Type 0} → X → Unit {0} × (X × Unit {0})
inner x = (tt, (x, tt))

abbrev outer : {X : Type 0} → Unit {0} × (X × Unit {0}) → X
outer p = p.1.0

module _ {X : Type 0} {a : X → List Symbol} {f : Symbol → Bool} {at : X → Symbol → Bool} (inside : InBrackets a f at) where
  close_follows : Follows f (fixed CloseBracket) never
  close_follows = record { each = λ u r h. inside.on }

  close_meets : Meets at (fixed CloseBracket) (λ _. never)
  close_meets = record { here = λ x u r h. inside.here x }

  pub brackets_way : {x : X} → ReadsOneWay a f at x → ReadsOneWay (within OpenBracket a CloseBracket) never (λ _. never) x
  brackets_way {x} way = via_way inner outer (λ _. refl) (both_way ((fixed_piece OpenBracket).each tt) (both_way way ((fixed_piece CloseBracket).each tt) close_follows close_meets) ends meets)

  pub brackets_piece : Piece a f at → Piece (within OpenBracket a CloseBracket) never (λ _. never)
  brackets_piece piece = record { some = piece.some; each = λ x. brackets_way (piece.each x) }

  pub brackets_open_fails : {old new : List Symbol} → Piece a f at → Fails (fixed OpenBracket) never old new → Fails (within OpenBracket a CloseBracket) never old new
  brackets_open_fails {old} {new} piece h = via_fails inner outer (λ _. refl) (fails_here h (both_piece piece (fixed_piece CloseBracket) close_follows close_meets))

  pub brackets_fails : {old mid new : List Symbol} → (old ≡ Fixed OpenBracket ∷ mid) × Stops never mid → Fails a f mid new → Fails (within OpenBracket a CloseBracket) never old new
  brackets_fails {old} {mid} {new} read h = via_fails inner outer (λ _. refl) (fails_after tt (fixed_piece OpenBracket) read (fails_first h (fixed_piece CloseBracket) close_follows))

  pub brackets_close_fails : {old mid last new : List Symbol} (x : X) → Piece a f at → (old ≡ Fixed OpenBracket ∷ mid) × Stops never mid → (mid ≡ a x ++ last) × Stops (at x) last → Fails (fixed CloseBracket) never last new → Fails (within OpenBracket a CloseBracket) never old new
  brackets_close_fails {old} {mid} {last} {new} x piece read middle h = via_fails inner outer (λ _. refl) (fails_after tt (fixed_piece OpenBracket) read (fails_second x piece middle close_follows h))
