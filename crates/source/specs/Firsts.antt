-- The first piece of a text.
use Rattle.std.specs.Prelude.{◌≡◌, ℕ, false, List, take}
use Rattle.source.specs.Cutting.{IsFirstPiece}
use Rattle.source.specs.Faults.{is_too_large}
use Rattle.source.specs.Pieces.{kind_of}
use Rattle.source.specs.declared.pieces.Piece.{Piece}

-- this is the longest piece at the front, and it is not a number that is too large
pub record IsFirst (rest : List ℕ) (piece : Piece) : Type 0 where
  pub first : IsFirstPiece rest piece.len
  pub kind : piece.kind ≡ kind_of (take piece.len rest)
  pub fits : is_too_large (take piece.len rest) ≡ false
