-- The front of bytes: digits, spaces, numbers and lines.
use Rattle.std.proofs.Common.{◌≡◌, ◌<◌, ◌≤◌, ◌+◌, ◌-◌, ◌*◌, ◌^◌, ℕ, zero, suc, Bool, true, false, cond, not, ◌||◌, ◌==◌, if◌then◌else◌, List, [], ◌∷◌, ◌++◌, length, take, drop, replicate, get_or, min, refl, ap, sym, ◌∙◌, subst, ap₂, ◌⊎◌, inl, inr, arith, one-add, length-drop, drop-drop}
use Rattle.std.proofs.Math.Seq.{take-append_seam, drop-append_seam}
use Rattle.std.proofs.lemmas.Bool.Decides.{nat_tests}
use Rattle.std.proofs.lemmas.Int.Digits.{digits_value_push}
use Rattle.std.proofs.lemmas.List.{take-append-drop, take_more}
use Rattle.std.proofs.lemmas.Str.Parse.{digit_at, digit_from_value}
use Rattle.std.specs.Char.{digit_value, is_ascii_digit}
use Rattle.std.proofs.lemmas.List.Splits.{slice_split_first, slice_split_none}
use Rattle.std.proofs.lemmas.List.Folds.{list_any_at}
use Rattle.std.proofs.lemmas.List.Sums.{fails_before_first, passes_at_first}
use Rattle.std.specs.List.{after_first, before_first, list_any, position_or_len, prefix_len, slice_split}
use Rattle.std.specs.Str.Parse.{AllDigits, digits_value}
use Rattle.replays.specs.Fronts.{BeginsWith, StopsAt, is_space}
use Rattle.replays.specs.Schedules.{IsNumber, without_comment, without_spaces_at_end}
use Rattle.replays.specs.declared.limits.TheConstants.{MOST_NUMBER}

digit_small : (c : ℕ) → is_ascii_digit c ≡ true → digit_value c < 10
digit_small c h = grind (arith, nat_tests)

digit_is : (c : ℕ) → is_ascii_digit c ≡ true → digit_value c ≡ c - 48
digit_is c h = grind (arith, nat_tests)

digit_test : (c : ℕ) → digit_value c < 10 → is_ascii_digit c ≡ true
digit_test c h = let k = digit_from_value c h in grind (arith, nat_tests)

digit_no_space : (c : ℕ) → digit_value c < 10 → is_space c ≡ false
digit_no_space c h = let k = digit_from_value c h in grind (arith, nat_tests)

-- the bytes counted by `prefix_len is_ascii_digit` are digits
pub digits_pass : (bytes : List ℕ) → AllDigits 10 (take (prefix_len is_ascii_digit bytes) bytes)
digits_pass [] = tt
digits_pass (c ∷ cs) = by (is_ascii_digit c) refl (digits_pass cs)
  where
    by : (b : Bool) → is_ascii_digit c ≡ b → AllDigits 10 (take (prefix_len is_ascii_digit cs) cs) → AllDigits 10 (take (cond b (1 + prefix_len is_ascii_digit cs) 0) (c ∷ cs))
    by true e more = rw (one-add (prefix_len is_ascii_digit cs)) (digit_small c e, more)
    by false e more = tt

-- after the longest prefix whose bytes pass comes a byte that does not pass, or the end
pub front_stops : (p : ℕ → Bool) (bytes : List ℕ) → StopsAt p (drop (prefix_len p bytes) bytes)
front_stops p [] = tt
front_stops p (c ∷ cs) = by (p c) refl (front_stops p cs)
  where
    by : (b : Bool) → p c ≡ b → StopsAt p (drop (prefix_len p cs) cs) → StopsAt p (drop (cond b (1 + prefix_len p cs) 0) (c ∷ cs))
    by true e more = rw (one-add (prefix_len p cs)) more
    by false e more = e

-- digits before a byte that is no digit, or before the end, are the whole prefix of digits
pub digits_end : (digits rest : List ℕ) → AllDigits 10 digits → StopsAt is_ascii_digit rest → prefix_len is_ascii_digit (digits ++ rest) ≡ length digits
digits_end [] [] d s = refl
digits_end [] (c ∷ cs) d s = ap (λ b. cond b (1 + prefix_len is_ascii_digit cs) 0) s
digits_end (c ∷ cs) rest d s = ap (λ b. cond b (1 + prefix_len is_ascii_digit (cs ++ rest)) 0) (digit_test c d.0) ∙ one-add (prefix_len is_ascii_digit (cs ++ rest)) ∙ ap suc (digits_end cs rest d.1 s)

-- spaces before a byte that is no space, or before the end, are the whole prefix of spaces
pub spaces_end : (n : ℕ) (rest : List ℕ) → StopsAt is_space rest → prefix_len is_space (replicate n 32 ++ rest) ≡ n
spaces_end zero [] s = refl
spaces_end zero (c ∷ cs) s = ap (λ b. cond b (1 + prefix_len is_space cs) 0) s
spaces_end (suc n) rest s = one-add (prefix_len is_space (replicate n 32 ++ rest)) ∙ ap suc (spaces_end n rest s)

-- the bytes counted by `prefix_len is_space` are spaces
pub spaces_are : (bytes : List ℕ) → take (prefix_len is_space bytes) bytes ≡ replicate (prefix_len is_space bytes) 32
spaces_are [] = refl
spaces_are (c ∷ cs) = by (is_space c) refl (spaces_are cs)
  where
    by : (b : Bool) → is_space c ≡ b → take (prefix_len is_space cs) cs ≡ replicate (prefix_len is_space cs) 32
        → take (cond b (1 + prefix_len is_space cs) 0) (c ∷ cs) ≡ replicate (cond b (1 + prefix_len is_space cs) 0) 32
    by true e more = let k : c ≡ 32 = grind (arith, nat_tests) in rw (one-add (prefix_len is_space cs)) (ap (λ d. d ∷ take (prefix_len is_space cs) cs) k ∙ ap (λ l. 32 ∷ l) more)
    by false e more = refl

-- a number does not begin with a space
pub number_no_space : (digits rest : List ℕ) (n : ℕ) → IsNumber digits n → StopsAt is_space (digits ++ rest)
number_no_space [] rest n h = absurd (omega (arith, h.numeral.0))
number_no_space (c ∷ cs) rest n h = digit_no_space c h.numeral.1.0

-- a number at the front has all digits of the front
pub begins_digits : (bytes : List ℕ) (n : ℕ) (rest : List ℕ) (b : BeginsWith bytes n rest) → prefix_len is_ascii_digit bytes ≡ length b.digits
begins_digits bytes n rest b = ap (prefix_len is_ascii_digit) b.are ∙ digits_end b.digits rest b.number.numeral.1 b.stops

pub begins_front : (bytes : List ℕ) (n : ℕ) (rest : List ℕ) (b : BeginsWith bytes n rest) → take (prefix_len is_ascii_digit bytes) bytes ≡ b.digits
begins_front bytes n rest b = ap (λ k. take k bytes) (begins_digits bytes n rest b) ∙ ap (take (length b.digits)) b.are ∙ take-append_seam b.digits rest

pub begins_rest : (bytes : List ℕ) (n : ℕ) (rest : List ℕ) → BeginsWith bytes n rest → drop (prefix_len is_ascii_digit bytes) bytes ≡ rest
begins_rest bytes n rest b = ap (λ k. drop k bytes) (begins_digits bytes n rest b) ∙ ap (drop (length b.digits)) b.are ∙ drop-append_seam b.digits rest

pub begins_value : (bytes : List ℕ) (n : ℕ) (rest : List ℕ) → BeginsWith bytes n rest → n ≡ digits_value 10 (take (prefix_len is_ascii_digit bytes) bytes)
begins_value bytes n rest b = b.number.value ∙ ap (digits_value 10) (sym (begins_front bytes n rest b))

-- bytes begin with at most one number, and have one rest after it
pub begins_once : (bytes : List ℕ) (m n : ℕ) (x y : List ℕ) → BeginsWith bytes m x → BeginsWith bytes n y → (m ≡ n) × (x ≡ y)
begins_once bytes m n x y a b = (begins_value bytes m x a ∙ sym (begins_value bytes n y b), sym (begins_rest bytes m x a) ∙ begins_rest bytes n y b)

capped_more : (v value times digit result : ℕ) → value ≡ min v (2 ^ 64 - 1) → times ≡ min (value * 10) (2 ^ 64 - 1) → result ≡ min (times + digit) (2 ^ 64 - 1) → result ≡ min (v * 10 + digit) (2 ^ 64 - 1)
capped_more v value times digit result a b c = omega arith

-- one more digit: ten times the value plus the digit, capped at the greatest number of the type
pub value_more : (ds : List ℕ) (i value times digit result : ℕ) → i < length ds → AllDigits 10 ds → value ≡ min (digits_value 10 (take i ds)) (2 ^ 64 - 1) → times ≡ min (value * 10) (2 ^ 64 - 1) → digit ≡ get_or ds i 0 - 48 → result ≡ min (times + digit) (2 ^ 64 - 1) → result ≡ min (digits_value 10 (take (i + 1) ds)) (2 ^ 64 - 1)
value_more ds i value times digit result lt all a b e c =
    let d = get_or ds i 0 in
    let more : digits_value 10 (take (i + 1) ds) ≡ digits_value 10 (take i ds) * 10 + digit_value d = ap (digits_value 10) (take_more ds i 0 lt) ∙ digits_value_push 10 (take i ds) d in
    let range = digit_at ds i all lt in
    let same : digit_value d ≡ d - 48 = digit_is d (grind (arith, nat_tests)) in
    capped_more (digits_value 10 (take i ds)) value times digit result a b c ∙ omega arith

-- bytes without a line end are one line
pub cut_none : (p : ℕ → Bool) (bytes : List ℕ) → length bytes ≤ position_or_len p bytes → slice_split p bytes ≡ bytes ∷ []
cut_none p bytes h = slice_split_none p bytes (λ k d lt. fails_before_first p bytes k d (omega arith))

-- the first line ends at the first line end
pub cut_first : (p : ℕ → Bool) (bytes line rest behind : List ℕ) (n : ℕ) → n ≡ position_or_len p bytes → line ≡ take n bytes → rest ≡ drop n bytes → 1 ≤ length rest → behind ≡ drop 1 rest → slice_split p bytes ≡ line ∷ slice_split p behind
cut_first p bytes line rest behind n e f g some h =
    let lt : position_or_len p bytes < length bytes = omega (arith, ap (λ l. length l) g, length-drop n bytes) in
    let front : line ≡ before_first p bytes = f ∙ ap (λ k. take k bytes) e in
    let back : behind ≡ after_first p bytes = h ∙ ap (drop 1) g ∙ drop-drop 1 n bytes ∙ ap (λ k. drop k bytes) (omega arith) in
    slice_split_first p bytes 0 lt ∙ ap (λ l. l ∷ slice_split p (after_first p bytes)) (sym front) ∙ ap (λ l. line ∷ slice_split p l) (sym back)

-- bytes begin with no number if no digit is at the front, or if the value is too large
pub no_number : (bytes digits : List ℕ) (value n : ℕ) (rest : List ℕ) → digits ≡ take (prefix_len is_ascii_digit bytes) bytes → value ≡ min (digits_value 10 digits) (2 ^ 64 - 1) → (length digits ≡ 0) ⊎ (MOST_NUMBER < value) → BeginsWith bytes n rest → ⊥
no_number bytes digits value n rest are is (inl none) b = omega (arith, b.number.numeral.0, ap (λ l. length l) (are ∙ begins_front bytes n rest b))
no_number bytes digits value n rest are is (inr large) b =
    omega (arith, b.number.small, begins_value bytes n rest b ∙ ap (digits_value 10) (sym are))

-- bytes begin with a number if a digit is at the front and the value is not too large
pub a_number : (bytes digits rest : List ℕ) (value : ℕ) → digits ≡ take (prefix_len is_ascii_digit bytes) bytes → rest ≡ drop (prefix_len is_ascii_digit bytes) bytes → value ≡ min (digits_value 10 digits) (2 ^ 64 - 1) → 0 < length digits → value ≤ MOST_NUMBER → BeginsWith bytes value rest
a_number bytes digits rest value are left is some small = record {
  digits = digits;
  number = record {
    numeral = (some, subst (AllDigits 10) (sym are) (digits_pass bytes));
    value = omega arith;
    small = small;
  };
  are = sym (ap₂ (λ a b. a ++ b) are left ∙ take-append-drop (prefix_len is_ascii_digit bytes) bytes);
  stops = subst (StopsAt is_ascii_digit) (sym left) (front_stops is_ascii_digit bytes);
}

-- whether a byte passes, by where the first one that passes is
some_passes : (p : ℕ → Bool) (bytes : List ℕ) → position_or_len p bytes < length bytes → list_any p bytes ≡ true
some_passes p bytes lt = list_any_at p bytes (position_or_len p bytes) 0 lt (passes_at_first p bytes 0 lt)

none_passes : (p : ℕ → Bool) (bytes : List ℕ) → length bytes ≤ position_or_len p bytes → list_any p bytes ≡ false
none_passes p [] le = refl
none_passes p (c ∷ cs) le = by (p c) refl (none_passes p cs) le
  where
    by : (b : Bool) → p c ≡ b → (length cs ≤ position_or_len p cs → list_any p cs ≡ false) → length (c ∷ cs) ≤ cond (not b) (1 + position_or_len p cs) 0 → (b || list_any p cs) ≡ false
    by true e rest h = absurd (omega (arith, h))
    by false e rest h = rest (omega (arith, h))

-- a line, if it has a `#` or not
with_comment : (line : List ℕ) (b : Bool) → list_any (λ c. c == 35) line ≡ b → (if b then without_spaces_at_end (before_first (λ c. c == 35) line) else line) ≡ without_comment line
with_comment line b e = ap (λ d. if d then without_spaces_at_end (before_first (λ c. c == 35) line) else line) (sym e)

-- the comment begins at the first `#`
pub some_comment : (line text : List ℕ) (n : ℕ) → n ≡ position_or_len (λ b. b == 35) line → n < length line → text ≡ without_spaces_at_end (take n line) → text ≡ without_comment line
some_comment line text n e lt h =
    h ∙ ap (λ k. without_spaces_at_end (take k line)) e ∙ with_comment line true (some_passes (λ b. b == 35) line (omega (arith, e, lt)))

-- without a `#` the whole line counts
pub no_comment : (line : List ℕ) (n : ℕ) → n ≡ position_or_len (λ b. b == 35) line → length line ≤ n → line ≡ without_comment line
no_comment line n e le = with_comment line false (none_passes (λ b. b == 35) line (omega (arith, e, le)))
