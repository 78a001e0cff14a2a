-- What is wrong with a text, and which of its faults is the first.
use Rattle.std.specs.Prelude.{◌≡◌, ℕ, ◌<◌, ◌≤◌, Bool, true, false, List, [], ◌∷◌, length, take, not, nat_lt, ◌&&◌}
use Rattle.std.specs.List.{concat}
use Rattle.source.specs.Brackets.{depth_behind, depth_of}
use Rattle.source.specs.Comments.{begins_block}
use Rattle.source.specs.Cutting.{IsFirstPiece, HasNoPiece, Cuts}
use Rattle.source.specs.Marks.{body_of}
use Rattle.source.specs.Numbers.{number_value}
use Rattle.source.specs.Pieces.{is_number}
use Rattle.source.specs.Places.{place_of}
use Rattle.source.specs.declared.place.Place.{Place}
use Rattle.source.specs.declared.fault.TextFault.{TextFault}
use Rattle.source.specs.declared.fault.TextFault.TheVariants.{Stray, OpenComment, TooLong, TooDeep, TooLarge, Memory}
use Rattle.source.specs.declared.brackets.TheConstants.{MAX_DEPTH}
use Rattle.source.specs.declared.numbers.TheConstants.{MAX_NUMBER}
use Rattle.source.specs.declared.lexer.TheConstants.{MAX_TEXT}

-- whether a piece opens a bracket too many, if `depth` are open before it
abbrev pub is_too_deep : ℕ → List ℕ → Bool
is_too_deep depth piece = nat_lt MAX_DEPTH (depth_behind depth piece)

-- whether a piece is a number above the greatest allowed
abbrev pub is_too_large : List ℕ → Bool
is_too_large piece = is_number piece && nat_lt MAX_NUMBER (number_value piece)

-- whether none of these pieces opens a bracket too many or is a number too large
abbrev pub are_allowed : ℕ → List (List ℕ) → Bool
are_allowed depth [] = true
are_allowed depth (p ∷ ps) = not (is_too_deep depth p) && not (is_too_large p) && are_allowed (depth_behind depth p) ps

-- the text is these pieces, none of them at fault, and then the rest
pub record Begins (pieces : List (List ℕ)) (text rest : List ℕ) : Type 0 where
  pub cut : Cuts pieces text rest
  pub allowed : are_allowed 0 pieces ≡ true

-- there are bytes left, but neither a piece nor `/*` begins here
pub record IsStray (rest : List ℕ) : Type 0 where
  pub some : 0 < length rest
  pub none : HasNoPiece rest
  pub other : begins_block rest ≡ false

-- a comment begins here that does not end
pub record IsOpenComment (rest : List ℕ) : Type 0 where
  pub begins : begins_block rest ≡ true
  pub none : HasNoPiece rest

-- the first piece opens a bracket too many, if `depth` are open before it
pub record IsTooDeep (depth : ℕ) (rest : List ℕ) : Type 0 where
  pub len : ℕ
  pub first : IsFirstPiece rest len
  pub deep : is_too_deep depth (take len rest) ≡ true

-- the first piece is a number that is too large
pub record IsTooLarge (rest : List ℕ) : Type 0 where
  pub len : ℕ
  pub first : IsFirstPiece rest len
  pub large : is_too_large (take len rest) ≡ true

-- the text has this fault right here, at this place and with this many brackets open
abbrev pub StandsAt : TextFault → Place → ℕ → List ℕ → Type 0
StandsAt (Stray at) place depth rest = (at ≡ place) × IsStray rest
StandsAt (OpenComment at) place depth rest = (at ≡ place) × IsOpenComment rest
StandsAt TooLong place depth rest = ⊥
StandsAt (TooDeep at) place depth rest = (at ≡ place) × IsTooDeep depth rest
StandsAt (TooLarge at) place depth rest = (at ≡ place) × IsTooLarge rest
StandsAt Memory place depth rest = ⊥

-- the text begins with pieces that have no fault, and this fault comes next
pub record HasFirst (text : List ℕ) (fault : TextFault) : Type 0 where
  pub pieces : List (List ℕ)
  pub rest : List ℕ
  pub begins : Begins pieces text rest
  pub there : StandsAt fault (place_of (concat pieces)) (depth_of 0 pieces) rest

-- this is the fault of the text: that it is too long, or else the first fault in it
abbrev pub IsFault : List ℕ → TextFault → Type 0
IsFault text TooLong = MAX_TEXT < length text
IsFault text fault = (length text ≤ MAX_TEXT) × HasFirst (body_of text) fault
