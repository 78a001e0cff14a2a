-- The pieces that begin with a byte.
use Rattle.std.proofs.Common.{◌≡◌, ℕ, Bool, true, false, List, [], ◌∷◌, None, refl, ◌∙◌, ap, arith}
use Rattle.std.specs.Prelude.{is_some, not, ◌||◌, ◌&&◌, ◌==◌}
use Rattle.std.specs.List.{list_all}
use Rattle.std.specs.Char.{is_ascii_digit}
use Rattle.std.proofs.lemmas.Bool.Decides.{nat_tests}
use Rattle.std.proofs.Math.Bool.{or-false}
use Rattle.source.specs.Classes.{is_blank_byte, starts_word, in_word}
use Rattle.source.specs.Comments.{is_comment, closes}
use Rattle.source.specs.Places.{ends_line}
use Rattle.source.specs.Pieces.{is_piece, is_blank}
use Rattle.source.specs.Words.{symbol, all_symbols}
use Rattle.source.proofs.WrittenLemmas.{all_bytes, none_begins}

-- a byte that begins a word begins nothing else
word_no_blank : (b : ℕ) → starts_word b ≡ true → is_blank_byte b ≡ false
word_no_blank b h = grind (arith, nat_tests)

word_no_slash : (b : ℕ) → starts_word b ≡ true → (b == 47) ≡ false
word_no_slash b h = grind (arith, nat_tests)

pub word_no_digit : (b : ℕ) → starts_word b ≡ true → is_ascii_digit b ≡ false
word_no_digit b h = grind (arith, nat_tests)

-- a digit begins nothing but a number
digit_no_blank : (b : ℕ) → is_ascii_digit b ≡ true → is_blank_byte b ≡ false
digit_no_blank b h = grind (arith, nat_tests)

digit_no_slash : (b : ℕ) → is_ascii_digit b ≡ true → (b == 47) ≡ false
digit_no_slash b h = grind (arith, nat_tests)

pub digit_no_word : (b : ℕ) → is_ascii_digit b ≡ true → starts_word b ≡ false
digit_no_word b h = grind (arith, nat_tests)

-- a blank begins nothing else
blank_no_slash : (b : ℕ) → is_blank_byte b ≡ true → (b == 47) ≡ false
blank_no_slash b h = grind (arith, nat_tests)

pub blank_no_word : (b : ℕ) → is_blank_byte b ≡ true → starts_word b ≡ false
blank_no_word b h = grind (arith, nat_tests)

pub blank_no_digit : (b : ℕ) → is_blank_byte b ≡ true → is_ascii_digit b ≡ false
blank_no_digit b h = grind (arith, nat_tests)

-- what is known about the other forms of a piece
no_blank : (b : ℕ) (bs : List ℕ) → is_blank_byte b ≡ false → is_blank (b ∷ bs) ≡ false
no_blank b [] h = h
no_blank b (c ∷ bs) h = refl

no_comment : (b : ℕ) (bs : List ℕ) → (b == 47) ≡ false → is_comment (b ∷ bs) ≡ false
no_comment b [] h = refl
no_comment b (c ∷ bs) h = λ i. h i && c == 47 && list_all (λ x. not (ends_line x)) bs || h i && c == 42 && closes bs

no_symbol : (p : ℕ → Bool) → all_bytes (λ b. not (p b)) all_symbols ≡ true → (b : ℕ) (bs : List ℕ) → p b ≡ true → symbol (b ∷ bs) ≡ None
no_symbol p apart b bs h = none_begins (λ b. not (p b)) all_symbols b bs apart (ap not h)

pub blank_no_symbol : (b : ℕ) (bs : List ℕ) → is_blank_byte b ≡ true → symbol (b ∷ bs) ≡ None
blank_no_symbol b bs h = no_symbol is_blank_byte refl b bs h

-- what continues a word
pub front_word : (b : ℕ) (bs : List ℕ) → starts_word b ≡ true → is_piece (b ∷ bs) ≡ list_all in_word bs
front_word b bs h =
    let t = list_all in_word bs in
    let only : is_piece (b ∷ bs) ≡ ((t || false) || false) = λ i. no_blank b bs (word_no_blank b h) i || no_comment b bs (word_no_slash b h) i || h i && t || word_no_digit b h i && list_all is_ascii_digit bs || is_some (no_symbol starts_word refl b bs h i) in
    only ∙ ap (λ v. v || false) (or-false t) ∙ or-false t

-- what continues a number
pub front_digit : (b : ℕ) (bs : List ℕ) → is_ascii_digit b ≡ true → is_piece (b ∷ bs) ≡ list_all is_ascii_digit bs
front_digit b bs h =
    let t = list_all is_ascii_digit bs in
    let only : is_piece (b ∷ bs) ≡ (t || false) = λ i. no_blank b bs (digit_no_blank b h) i || no_comment b bs (digit_no_slash b h) i || digit_no_word b h i && list_all in_word bs || h i && t || is_some (no_symbol is_ascii_digit refl b bs h i) in
    only ∙ or-false t

-- nothing continues a blank
pub front_blank : (b c : ℕ) (bs : List ℕ) → is_blank_byte b ≡ true → is_piece (b ∷ c ∷ bs) ≡ false
front_blank b c bs h = λ i. false || no_comment b (c ∷ bs) (blank_no_slash b h) i || blank_no_word b h i && list_all in_word (c ∷ bs) || blank_no_digit b h i && list_all is_ascii_digit (c ∷ bs) || is_some (blank_no_symbol b (c ∷ bs) h i)

or_three : (t : Bool) → (((t || false) || false) || false) ≡ t
or_three true = refl
or_three false = refl

-- a slash begins comments
pub front_slash : (bs : List ℕ) → is_piece (47 ∷ bs) ≡ is_comment (47 ∷ bs)
front_slash [] = refl
front_slash (c ∷ []) = or_three (is_comment (47 ∷ c ∷ []))
front_slash (c ∷ d ∷ bs) = or_three (is_comment (47 ∷ c ∷ d ∷ bs))

-- any other byte begins symbols
pub front_other : (b : ℕ) (bs : List ℕ) → is_blank_byte b ≡ false → starts_word b ≡ false → is_ascii_digit b ≡ false → (b == 47) ≡ false → is_piece (b ∷ bs) ≡ is_some (symbol (b ∷ bs))
front_other b bs blank word digit slash = λ i. no_blank b bs blank i || no_comment b bs slash i || word i && list_all in_word bs || digit i && list_all is_ascii_digit bs || is_some (symbol (b ∷ bs))
