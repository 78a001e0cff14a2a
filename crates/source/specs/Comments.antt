-- Comments, each as a whole.
use Rattle.std.specs.Prelude.{ℕ, Bool, true, false, List, [], ◌∷◌, ◌==◌, ◌&&◌, ◌||◌, not, if◌then◌else◌}
use Rattle.std.specs.List.{list_all}
use Rattle.source.specs.Places.{ends_line}

-- `//`, followed by bytes none of which ends the line
abbrev pub is_line_comment : List ℕ → Bool
is_line_comment (a ∷ b ∷ bs) = a == 47 && b == 47 && list_all (λ x. not (ends_line x)) bs
is_line_comment _ = false

-- whether there are no bytes
abbrev pub is_none_left : List ℕ → Bool
is_none_left [] = true
is_none_left _ = false

-- whether the byte `a` and then these bytes end at the first `*/` in them
abbrev pub closes_behind : ℕ → List ℕ → Bool
closes_behind a [] = false
closes_behind a (b ∷ bs) = if a == 42 && b == 47 then is_none_left bs else closes_behind b bs

-- whether the bytes end at the first `*/` in them
abbrev pub closes : List ℕ → Bool
closes [] = false
closes (a ∷ bs) = closes_behind a bs

-- whether the bytes begin with `/*`
abbrev pub begins_block : List ℕ → Bool
begins_block (a ∷ b ∷ _) = a == 47 && b == 42
begins_block _ = false

-- `/*`, followed by bytes that end at the first `*/` in them
abbrev pub is_block_comment : List ℕ → Bool
is_block_comment (a ∷ b ∷ bs) = a == 47 && b == 42 && closes bs
is_block_comment _ = false

-- a comment of either form
abbrev pub is_comment : List ℕ → Bool
is_comment bytes = is_line_comment bytes || is_block_comment bytes
