-- The classes of bytes.
use Rattle.std.specs.Prelude.{◌≡◌, ℕ, Bool, false, ◌==◌, ◌||◌}
use Rattle.std.specs.Char.{is_ascii_alphabetic, is_ascii_alphanumeric, is_ascii_digit}

-- a space, a tab, a carriage return or a line feed
abbrev pub is_blank_byte : ℕ → Bool
is_blank_byte b = b == 32 || b == 9 || b == 13 || b == 10

-- a letter or `_`
abbrev pub starts_word : ℕ → Bool
starts_word b = is_ascii_alphabetic b || b == 95

-- a letter, a digit or `_`
abbrev pub in_word : ℕ → Bool
in_word b = is_ascii_alphanumeric b || b == 95

-- a byte that begins no blank, word, number or comment
pub record IsOther (b : ℕ) : Type 0 where
  pub blank : is_blank_byte b ≡ false
  pub word : starts_word b ≡ false
  pub digit : is_ascii_digit b ≡ false
  pub slash : (b == 47) ≡ false
