-- How many brackets are open.
use Rattle.std.specs.Prelude.{ℕ, ◌+◌, ◌-◌, List, [], ◌∷◌}
use Rattle.std.specs.Option.{option_map_or}
use Rattle.source.specs.Pieces.{kind_of}
use Rattle.source.specs.declared.kind.Kind.{Kind}
use Rattle.source.specs.declared.kind.Kind.TheVariants.{OpenBrace, CloseBrace, OpenParen, CloseParen, OpenBracket, CloseBracket}

-- The number of open brackets after a token, from the number before it. A closing bracket of any
-- kind closes one; if none is open, it changes nothing.
abbrev pub depth_after : ℕ → Kind → ℕ
depth_after depth OpenBrace = depth + 1
depth_after depth OpenParen = depth + 1
depth_after depth OpenBracket = depth + 1
depth_after depth CloseBrace = depth - 1
depth_after depth CloseParen = depth - 1
depth_after depth CloseBracket = depth - 1
depth_after depth _ = depth

-- the same after a piece; a blank or a comment changes nothing
abbrev pub depth_behind : ℕ → List ℕ → ℕ
depth_behind depth piece = option_map_or (depth_after depth) (kind_of piece) depth

-- the same after several pieces
abbrev pub depth_of : ℕ → List (List ℕ) → ℕ
depth_of depth [] = depth
depth_of depth (p ∷ ps) = depth_of (depth_behind depth p) ps
