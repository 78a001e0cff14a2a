-- Why a text is no program: the tokens with which it could have gone on.
use Rattle.std.specs.Prelude.{◌≡◌, ◌↔◌, ◌∷◌, [], ℕ, Bool, true, false, List, Option, Some, None, Contains, take, slice_get, codes}
use Rattle.std.specs.Prelude.{if◌then◌else◌}
use Rattle.std.specs.Option.{option_map_or}
use Rattle.source.specs.Marks.{body_of}
use Rattle.source.specs.Places.{place_of}
use Rattle.source.specs.Tokens.{AreTokens}
use Rattle.source.specs.declared.kind.Kind.{Kind}
use Rattle.source.specs.declared.kind.Kind.TheVariants.{Class, Contract, Internal, Private, Public, Rep, Static}
use Rattle.source.specs.declared.place.Place.{Place}
use Rattle.source.specs.declared.token.Span.{Span}
use Rattle.source.specs.declared.token.Token.{Token}
use Rattle.syntax.specs.Parsing.{IsFirstWrong}
use Rattle.tree.specs.Programs.{program}
use Rattle.expected.specs.Expectations.{expectation_of}
use Rattle.expected.specs.Expected.{IsExpected, IsSublist}
use Rattle.expected.specs.OpenBraces.{open_braces}
use Rattle.source.specs.declared.kinds.TheConstants.{ALL_KINDS}
use Rattle.explanations.specs.Explained.{ExplainedModel, is_asked}
use Rattle.explanations.specs.Lines.{LineModel, line}
use Rattle.singcheck.specs.Answers.{wrong_token}

-- the span of a wrong token, or the end of the text
abbrev pub wrong_span : Place → Option Token → Span
wrong_span end (Some token) = token.span
wrong_span end None = record { start = 0; end = 0; place = end }

-- whether a kind begins a definition or a method
abbrev pub begins_definition : Kind → Bool
begins_definition Class = true
begins_definition Contract = true
begins_definition Internal = true
begins_definition Private = true
begins_definition Public = true
begins_definition Rep = true
begins_definition Static = true
begins_definition _ = false

abbrev pub begins_item : Option Token → Bool
begins_item None = true
begins_item (Some token) = begins_definition token.kind

-- If a definition, a method or the end comes too early, the innermost open brace is likely not closed.
abbrev pub likely_brace : List Token → ℕ → Option Span
likely_brace tokens number = if begins_item (slice_get tokens number) then slice_get (open_braces [] (take number tokens)) 0 else None

abbrev pub brace_lines : List Token → ℕ → List LineModel
brace_lines tokens number = option_map_or (λ brace. line brace.place (codes "{ is not closed") ∷ []) (likely_brace tokens number) []

-- The lines of the wrong token of this number, or of the end: exactly the kinds of tokens that could have been there, and a brace.
pub record AreExpectedLines (tokens : List Token) (number : ℕ) (end place : Place) (lines : List LineModel) : Type 0 where
  pub kinds : List Kind
  pub exact : (kind : Kind) → Contains kinds kind ↔ IsExpected tokens number (wrong_span end (slice_get tokens number)) kind
  pub order : IsSublist kinds ALL_KINDS
  pub are : lines ≡ line place (expectation_of kinds) ∷ brace_lines tokens number

-- The tokens of the text are no program. The finding is that of the first wrong token, or of the end, with its lines unless
-- another place is named.
pub record IsUnexpected (named : Option Place) (text : List ℕ) (e : ExplainedModel) : Type 0 where
  pub tokens : List Token
  pub lexed : AreTokens text tokens
  pub number : ℕ
  pub wrong : IsFirstWrong program tokens number
  pub finding : e.finding ≡ wrong_token text (slice_get tokens number)
  pub asked : is_asked named e.finding.place ≡ true → AreExpectedLines tokens number (place_of (body_of text)) e.finding.place e.lines
  pub other : is_asked named e.finding.place ≡ false → e.lines ≡ []
