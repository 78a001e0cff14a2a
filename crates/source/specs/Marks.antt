-- The byte order mark at the front of a text.
use Rattle.std.specs.Prelude.{ℕ, List, [], ◌∷◌, drop, nat_eq, if◌then◌else◌}
use Rattle.std.specs.List.{starts_with}

-- the byte order mark in UTF-8
abbrev pub mark : List ℕ
mark = 239 ∷ 187 ∷ 191 ∷ []

-- the length of the mark at the front: 3, or 0 if there is none
abbrev pub mark_len : List ℕ → ℕ
mark_len text = if starts_with nat_eq text mark then 3 else 0

-- the text after its mark
abbrev pub body_of : List ℕ → List ℕ
body_of text = drop (mark_len text) text
