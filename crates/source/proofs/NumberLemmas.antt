-- The value of digits, one more at the end.
use Rattle.std.proofs.Common.{◌≡◌, ℕ, ◌+◌, ◌*◌, ◌^◌, ◌<◌, ◌-◌, List, [], ◌∷◌, ◌++◌, refl, ap, ◌∙◌, arith, true, length, get_or, take, min}
use Rattle.std.specs.Char.{digit_value, is_ascii_digit}
use Rattle.std.specs.Str.Parse.{digits_value_after}
use Rattle.std.proofs.lemmas.Bool.Decides.{nat_tests}
use Rattle.std.proofs.lemmas.List.{take_more}
use Rattle.source.specs.Numbers.{number_value}

after_push : (n : ℕ) (ds : List ℕ) (d : ℕ) → digits_value_after 10 n (ds ++ d ∷ []) ≡ digits_value_after 10 n ds * 10 + digit_value d
after_push n [] d = refl
after_push n (c ∷ cs) d = after_push (n * 10 + digit_value c) cs d

digit_is : (d : ℕ) → is_ascii_digit d ≡ true → digit_value d ≡ d - 48
digit_is d h = grind (arith, nat_tests)

capped_more : (v value times digit result : ℕ) → value ≡ min v (2 ^ 32 - 1) → times ≡ min (value * 10) (2 ^ 32 - 1) → result ≡ min (times + digit) (2 ^ 32 - 1) → result ≡ min (v * 10 + digit) (2 ^ 32 - 1)
capped_more v value times digit result a b c = omega arith

-- with one digit more, the value is ten times the old one and the digit, up to the greatest number of the type
pub value_more : (ds : List ℕ) (i value times digit result : ℕ) → i < length ds → is_ascii_digit (get_or ds i 0) ≡ true → value ≡ min (number_value (take i ds)) (2 ^ 32 - 1) → times ≡ min (value * 10) (2 ^ 32 - 1) → digit ≡ get_or ds i 0 - 48 → result ≡ min (times + digit) (2 ^ 32 - 1) → result ≡ min (number_value (take (i + 1) ds)) (2 ^ 32 - 1)
value_more ds i value times digit result lt is a b e c =
    let d = get_or ds i 0 in
    let more : number_value (take (i + 1) ds) ≡ number_value (take i ds) * 10 + digit_value d = ap number_value (take_more ds i 0 lt) ∙ after_push 0 (take i ds) d in
    let same : digit_value d ≡ d - 48 = digit_is d is in
    capped_more (number_value (take i ds)) value times digit result a b c ∙ omega arith
