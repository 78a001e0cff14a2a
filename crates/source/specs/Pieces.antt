-- Blanks, comments and tokens, each as a whole.
use Rattle.std.specs.Prelude.{ℕ, Bool, false, List, [], ◌∷◌, Option, Some, if◌then◌else◌, ◌&&◌, ◌||◌, is_some}
use Rattle.std.specs.List.{list_all}
use Rattle.std.specs.Char.{is_ascii_digit}
use Rattle.source.specs.Classes.{is_blank_byte, starts_word, in_word}
use Rattle.source.specs.Comments.{is_comment}
use Rattle.source.specs.Words.{symbol, word_kind}
use Rattle.source.specs.declared.kind.Kind.{Kind}
use Rattle.source.specs.declared.kind.Kind.TheVariants.{Number}

-- a single blank byte
abbrev pub is_blank : List ℕ → Bool
is_blank (b ∷ []) = is_blank_byte b
is_blank _ = false

-- a name or a reserved word: a letter or `_`, then letters, digits and `_`
abbrev pub is_word : List ℕ → Bool
is_word [] = false
is_word (b ∷ bs) = starts_word b && list_all in_word bs

-- a number: one or more digits
abbrev pub is_number : List ℕ → Bool
is_number [] = false
is_number (b ∷ bs) = is_ascii_digit b && list_all is_ascii_digit bs

-- whether the bytes are exactly one blank, one comment or one token
abbrev pub is_piece : List ℕ → Bool
is_piece bytes = is_blank bytes || is_comment bytes || is_word bytes || is_number bytes || is_some (symbol bytes)

-- the kind of token that a piece is; none for a blank or a comment
abbrev pub kind_of : List ℕ → Option Kind
kind_of bytes = if is_word bytes then Some (word_kind bytes) else (if is_number bytes then Some Number else symbol bytes)
