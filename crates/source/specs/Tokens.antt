-- The tokens of a text.
use Rattle.std.specs.Prelude.{◌≡◌, ℕ, ◌+◌, ◌<◌, ◌≤◌, List, [], ◌∷◌, ◌++◌, length, Option, Some, None}
use Rattle.source.specs.Faults.{Begins}
use Rattle.source.specs.Marks.{mark_len, body_of}
use Rattle.source.specs.Pieces.{kind_of}
use Rattle.source.specs.Places.{place_of}
use Rattle.source.specs.Slices.{slice_of}
use Rattle.source.specs.declared.kind.Kind.{Kind}
use Rattle.source.specs.declared.place.Place.{Place}
use Rattle.source.specs.declared.token.Token.{Token}
use Rattle.source.specs.declared.lexer.TheConstants.{MAX_TEXT}

-- The token that a piece is, from its kind, the length of the mark and the bytes before the piece;
-- none for a blank or a comment. Its place does not count the mark; the start and the end of its
-- span do.
abbrev pub token_of : Option Kind → ℕ → List ℕ → List ℕ → List Token
token_of None mark before piece = []
token_of (Some kind) mark before piece = record {
  kind = kind;
  span = record { start = mark + length before; end = mark + length before + length piece; place = place_of before };
} ∷ []

-- the tokens among pieces that follow these bytes
abbrev pub tokens_of : ℕ → List ℕ → List (List ℕ) → List Token
tokens_of mark before [] = []
tokens_of mark before (p ∷ ps) = token_of (kind_of p) mark before p ++ tokens_of mark (before ++ p) ps

-- the body after a mark of this length is cut whole and without a fault into these tokens, and ends at this place
pub record IsLexed (mark : ℕ) (body : List ℕ) (list : List Token) (place : Place) : Type 0 where
  pub pieces : List (List ℕ)
  pub begins : Begins pieces body []
  pub found : list ≡ tokens_of mark [] pieces
  pub ending : place ≡ place_of body

-- these are the tokens of a text that has no fault
pub record AreTokens (text : List ℕ) (tokens : List Token) : Type 0 where
  pub short : length text ≤ MAX_TEXT
  pub pieces : List (List ℕ)
  pub begins : Begins pieces (body_of text) []
  pub found : tokens ≡ tokens_of (mark_len text) [] pieces

-- the bytes of a token's span spell its kind
abbrev pub IsSpelled : List ℕ → Token → Type 0
IsSpelled text token = kind_of (slice_of text token.span.start token.span.end) ≡ Some token.kind

-- between these two bytes each token begins at or after the end of the one before it, and has at least one byte
abbrev pub AreInOrder : ℕ → ℕ → List Token → Type 0
AreInOrder from to [] = from ≤ to
AreInOrder from to (t ∷ ts) = (from ≤ t.span.start) × (t.span.start < t.span.end) × AreInOrder t.span.end to ts
