-- No byte of a token ends a line.
use Rattle.std.proofs.Common.{◌≡◌, ℕ, ◌+◌, Bool, true, false, List, [], ◌∷◌, ◌++◌, length, Some, sym, refl, ap, ◌∙◌, append_assoc, append-nil, arith, ⊎_elim}
use Rattle.std.specs.Prelude.{All, not, ◌&&◌, if◌then◌else◌}
use Rattle.std.specs.List.{list_all}
use Rattle.std.specs.Char.{is_ascii_digit}
use Rattle.std.proofs.lemmas.Bool.{both_ways, cases_Bool, eqb-true}
use Rattle.std.proofs.lemmas.List.Elements.{All-nil, All-cons, All-head, All-tail}
use Rattle.source.specs.Classes.{starts_word, in_word}
use Rattle.source.specs.Pieces.{is_word, is_number, kind_of}
use Rattle.source.specs.Places.{place_of, ends_line}
use Rattle.source.specs.Words.{symbol, all_symbols, word_kind}
use Rattle.source.specs.declared.kind.Kind.{Kind}
use Rattle.source.specs.declared.kind.Kind.TheVariants.{Number}
use Rattle.source.proofs.WrittenLemmas.{bytes_written}
use Rattle.source.proofs.PlaceLemmas.{place_next_col}

-- none of these bytes ends a line
abbrev pub InLine : List ℕ → Type 0
InLine bytes = All (λ b. ends_line b ≡ false) bytes

both : (s t : Bool) → (s && t) ≡ true → (s ≡ true) × (t ≡ true)
both true t h = (refl, h)
both false t h = cc

-- a byte that passes a test does not end a line, if the end of a line fails it
no_end : (q : ℕ → Bool) (b : ℕ) → q 10 ≡ false → q b ≡ true → ends_line b ≡ false
no_end q b stop is = ⊎_elim (λ ends. absurd (both_ways (q b) (ap q (eqb-true b 10 ends) ∙ stop) is)) (λ other. other) (cases_Bool (ends_line b))

all_in_line : (q : ℕ → Bool) → q 10 ≡ false → (bytes : List ℕ) → list_all q bytes ≡ true → InLine bytes
all_in_line q stop [] all = All-nil (λ b. ends_line b ≡ false)
all_in_line q stop (b ∷ bs) all =
    let each = both (q b) (list_all q bs) all in
    All-cons (λ b. ends_line b ≡ false) b bs (no_end q b stop each.0) (all_in_line q stop bs each.1)

word_in_line : (bytes : List ℕ) → is_word bytes ≡ true → InLine bytes
word_in_line [] is = All-nil (λ b. ends_line b ≡ false)
word_in_line (b ∷ bs) is =
    let each = both (starts_word b) (list_all in_word bs) is in
    All-cons (λ b. ends_line b ≡ false) b bs (no_end starts_word b refl each.0) (all_in_line in_word refl bs each.1)

number_in_line : (bytes : List ℕ) → is_number bytes ≡ true → InLine bytes
number_in_line [] is = All-nil (λ b. ends_line b ≡ false)
number_in_line (b ∷ bs) is =
    let each = both (is_ascii_digit b) (list_all is_ascii_digit bs) is in
    All-cons (λ b. ends_line b ≡ false) b bs (no_end is_ascii_digit b refl each.0) (all_in_line is_ascii_digit refl bs each.1)

symbol_in_line : (bytes : List ℕ) (kind : Kind) → symbol bytes ≡ Some kind → InLine bytes
symbol_in_line bytes kind is =
    all_in_line (λ b. not (ends_line b)) refl bytes (bytes_written (λ b. not (ends_line b)) all_symbols bytes kind refl is)

pub token_in_line : (bytes : List ℕ) (kind : Kind) → kind_of bytes ≡ Some kind → InLine bytes
token_in_line bytes kind is =
    ⊎_elim (λ word. word_in_line bytes word)
    (λ no_word. ⊎_elim (λ number. number_in_line bytes number)
    (λ no_number. symbol_in_line bytes kind (sym (λ i. if no_word i then Some (word_kind bytes) else (if no_number i then Some Number else symbol bytes)) ∙ is))
    (cases_Bool (is_number bytes)))
    (cases_Bool (is_word bytes))

-- the place after bytes that end no line
pub place_in_line : (before bytes : List ℕ) → InLine bytes → place_of (before ++ bytes) ≡ record { line = (place_of before).line; col = (place_of before).col + length bytes }
place_in_line before [] all =
    let same : (place_of before).col ≡ (place_of before).col + 0 = omega arith in
    ap place_of (append-nil before) ∙ (λ i. record { line = (place_of before).line; col = same i })
place_in_line before (b ∷ bs) all =
    let one = place_next_col before b (All-head (λ b. ends_line b ≡ false) b bs all) in
    let rest = place_in_line (before ++ b ∷ []) bs (All-tail (λ b. ends_line b ≡ false) b bs all) in
    let size : (place_of before).col + 1 + length bs ≡ (place_of before).col + length (b ∷ bs) = omega arith in
    ap place_of (sym (append_assoc before (b ∷ []) bs)) ∙ rest
    ∙ (λ i. record { line = (one i).line; col = (one i).col + length bs })
    ∙ (λ i. record { line = (place_of before).line; col = size i })
