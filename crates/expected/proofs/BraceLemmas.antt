-- How each token changes the open braces.
use Rattle.std.proofs.Common.{◌≡◌, ◌+◌, ◌<◌, ℕ, List, [], ◌∷◌, ◌++◌, Option, Some, length, take, drop, get_or, refl, sym, ap, ◌∙◌, add-one}
use Rattle.std.specs.Prelude.{slice_get}
use Rattle.std.proofs.lemmas.List.{take_more}
use Rattle.source.specs.declared.kind.Kind.{Kind}
use Rattle.source.specs.declared.kind.Kind.TheVariants.{OpenBrace, CloseBrace}
use Rattle.source.specs.declared.token.Span.{Span}
use Rattle.source.specs.declared.token.Token.{Token}
use Rattle.expected.specs.OpenBraces.{brace_turn, open_braces}

open_braces-append : (outer : List Span) (ts us : List Token) → open_braces outer (ts ++ us) ≡ open_braces (open_braces outer ts) us
open_braces-append outer [] us = refl
open_braces-append outer (t ∷ ts) us = open_braces-append (brace_turn t.kind t.span outer) ts us

-- the n-th of the open braces after the first tokens
abbrev pub open_at : List Token → ℕ → ℕ → Option Span
open_at ts i n = slice_get (open_braces [] (take i ts)) n

-- The token at i is this one, and the next one is at j.
pub record IsAt (ts : List Token) (i j : ℕ) (t : Token) : Type 0 where
  pub within : i < length ts
  pub next : j ≡ i + 1
  pub is : t ≡ get_or ts i t

turned : (ts : List Token) (i j n : ℕ) (t : Token) → IsAt ts i j t → open_at ts j n ≡ slice_get (brace_turn t.kind t.span (open_braces [] (take i ts))) n
turned ts i j n t at =
    let with_it : take j ts ≡ take i ts ++ t ∷ [] =
    ap (λ k. take k ts) at.next ∙ take_more ts i t at.within ∙ ap (λ u. take i ts ++ u ∷ []) (sym at.is) in
    ap (λ us. slice_get (open_braces [] us) n) with_it ∙ ap (λ outer. slice_get outer n) (open_braces-append [] (take i ts) (t ∷ []))

by_kind : (ts : List Token) (i j n : ℕ) (t : Token) (kind : Kind) → IsAt ts i j t → t.kind ≡ kind
    → open_at ts j n ≡ slice_get (brace_turn kind t.span (open_braces [] (take i ts))) n
by_kind ts i j n t kind at is = turned ts i j n t at ∙ ap (λ k. slice_get (brace_turn k t.span (open_braces [] (take i ts))) n) is

past_first : (outer : List Span) (n : ℕ) → slice_get (drop 1 outer) n ≡ slice_get outer (n + 1)
past_first [] n = refl
past_first (s ∷ outer) n = ap (slice_get (s ∷ outer)) (sym (add-one n))

pub at_close : (ts : List Token) (i j n : ℕ) (t : Token) → IsAt ts i j t → t.kind ≡ CloseBrace → open_at ts j n ≡ open_at ts i (n + 1)
at_close ts i j n t at is = by_kind ts i j n t CloseBrace at is ∙ past_first (open_braces [] (take i ts)) n

pub at_open : (ts : List Token) (i j m n : ℕ) (t : Token) → IsAt ts i j t → t.kind ≡ OpenBrace → n ≡ m + 1 → open_at ts j n ≡ open_at ts i m
at_open ts i j m n t at is next =
    by_kind ts i j n t OpenBrace at is ∙ ap (slice_get (t.span ∷ open_braces [] (take i ts))) (next ∙ add-one m)

pub at_first : (ts : List Token) (i j n : ℕ) (t : Token) → IsAt ts i j t → t.kind ≡ OpenBrace → n ≡ 0 → open_at ts j n ≡ Some t.span
at_first ts i j n t at is none = ap (open_at ts j) none ∙ by_kind ts i j 0 t OpenBrace at is

no_turn : (kind : Kind) (span : Span) (outer : List Span) → (kind ≡ OpenBrace → ⊥) → (kind ≡ CloseBrace → ⊥) → brace_turn kind span outer ≡ outer
no_turn OpenBrace span outer p q = absurd (p refl)
no_turn CloseBrace span outer p q = absurd (q refl)
no_turn _ span outer p q = refl

pub at_other : (ts : List Token) (i j n : ℕ) (t : Token) → IsAt ts i j t → (t.kind ≡ OpenBrace → ⊥) → (t.kind ≡ CloseBrace → ⊥)
    → open_at ts j n ≡ open_at ts i n
at_other ts i j n t at p q =
    turned ts i j n t at ∙ ap (λ outer. slice_get outer n) (no_turn t.kind t.span (open_braces [] (take i ts)) p q)
