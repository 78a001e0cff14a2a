-- A text cut into pieces, each the longest at its place.
use Rattle.std.specs.Prelude.{◌≡◌, ℕ, ◌<◌, ◌≤◌, true, false, List, [], ◌∷◌, length, take, drop}
use Rattle.source.specs.Pieces.{is_piece}

-- the first `n` bytes are a piece, and no longer prefix is one
pub record IsFirstPiece (rest : List ℕ) (n : ℕ) : Type 0 where
  pub some : 0 < n
  pub within : n ≤ length rest
  pub piece : is_piece (take n rest) ≡ true
  pub longest : (m : ℕ) → n < m → m ≤ length rest → is_piece (take m rest) ≡ false

-- no piece begins here
pub record HasNoPiece (rest : List ℕ) : Type 0 where
  pub none : (m : ℕ) → m ≤ length rest → is_piece (take m rest) ≡ false

-- the text is these pieces, each the longest at its place, and then the rest
abbrev pub Cuts : List (List ℕ) → List ℕ → List ℕ → Type 0
Cuts [] text rest = text ≡ rest
Cuts (p ∷ ps) text rest = IsFirstPiece text (length p) × (take (length p) text ≡ p) × Cuts ps (drop (length p) text) rest
