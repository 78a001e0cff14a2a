-- The first piece, as the code returns it.
use Rattle.std.proofs.Common.{◌≡◌, ◌≢◌, ℕ, zero, suc, ◌-◌, ◌^◌, ◌<◌, ◌≤◌, true, false, List, [], ◌∷◌, length, get_or, take, min, Some, None, sym, refl, ◌∙◌, ap, subst, arith}
use Rattle.std.specs.Prelude.{◌&&◌, ◌==◌, nat_lt}
use Rattle.std.specs.List.{list_all}
use Rattle.std.specs.Char.{is_ascii_digit}
use Rattle.std.proofs.lemmas.Bool.{and_right}
use Rattle.std.proofs.lemmas.Bool.Decides.{nat_tests}
use Rattle.source.specs.declared.kind.Kind.{Kind}
use Rattle.source.specs.declared.kind.Kind.TheVariants.{Number}
use Rattle.source.specs.Classes.{is_blank_byte, starts_word, in_word, IsOther}
use Rattle.source.specs.Numbers.{number_value}
use Rattle.source.specs.Pieces.{is_number, kind_of}
use Rattle.source.specs.Words.{word_kind}
use Rattle.source.specs.Cutting.{IsFirstPiece}
use Rattle.source.specs.Faults.{is_too_large, IsTooLarge, IsStray}
use Rattle.source.specs.Firsts.{IsFirst}
use Rattle.source.proofs.FrontLemmas.{word_no_digit, blank_no_digit}
use Rattle.source.proofs.FirstLemmas.{first_word, first_number, first_blank}
use Rattle.source.proofs.BlockLemmas.{stray_last, stray_slash}

-- what does not begin with a digit is no number
fits_front : (rest : List ℕ) (n : ℕ) → is_ascii_digit (get_or rest 0 0) ≡ false → is_too_large (take n rest) ≡ false
fits_front rest zero h = refl
fits_front [] (suc n) h = refl
fits_front (b ∷ bs) (suc n) h = λ i. h i && list_all is_ascii_digit (take n bs) && nat_lt 2147483647 (number_value (b ∷ take n bs))

pub word_found : (rest : List ℕ) (n : ℕ) (kind : Kind) → 0 < length rest → starts_word (get_or rest 0 0) ≡ true → n ≤ length rest → ((k : ℕ) → k < n → in_word (get_or rest k 0) ≡ true) → (n < length rest → in_word (get_or rest n 0) ≡ false) → kind ≡ word_kind (take n rest) → IsFirst rest (record { kind = Some kind; len = n })
word_found rest n kind some w within each stop is =
    let found = first_word rest n some w within each stop in record {
      first = found.0;
      kind = ap (λ k. Some k) is ∙ found.1;
      fits = fits_front rest n (word_no_digit (get_or rest 0 0) w);
    }

pub blank_found : (rest : List ℕ) → 0 < length rest → is_blank_byte (get_or rest 0 0) ≡ true → IsFirst rest (record { kind = None; len = 1 })
blank_found rest some blank =
    let found = first_blank rest some blank in record {
      first = found.0;
      kind = found.1;
      fits = fits_front rest 1 (blank_no_digit (get_or rest 0 0) blank);
    }

pub symbol_found : (rest : List ℕ) (n : ℕ) (kind : Kind) → IsOther (get_or rest 0 0) → IsFirstPiece rest n × (Some kind ≡ kind_of (take n rest)) → IsFirst rest (record { kind = Some kind; len = n })
symbol_found rest n kind o found = record { first = found.0; kind = found.1; fits = fits_front rest n o.digit }

slash_no_digit : (b : ℕ) → b ≡ 47 → is_ascii_digit b ≡ false
slash_no_digit b h = ap is_ascii_digit h

-- a number that is not too large, and one that is
pub number_found : (rest : List ℕ) (n value : ℕ) → 0 < length rest → is_ascii_digit (get_or rest 0 0) ≡ true → n ≤ length rest → ((k : ℕ) → k < n → is_ascii_digit (get_or rest k 0) ≡ true) → (n < length rest → is_ascii_digit (get_or rest n 0) ≡ false) → value ≡ min (number_value (take n rest)) (2 ^ 32 - 1) → value ≤ 2147483647 → IsFirst rest (record { kind = Some Number; len = n })
number_found rest n value some d within each stop is small =
    let found = first_number rest n some d within each stop in
    let low : number_value (take n rest) ≤ 2147483647 = omega arith in
    record {
      first = found.0;
      kind = found.1;
      fits = and_right (is_number (take n rest)) (nat_lt 2147483647 (number_value (take n rest))) (not_above (number_value (take n rest)) low);
    }
  where
    not_above : (v : ℕ) → v ≤ 2147483647 → nat_lt 2147483647 v ≡ false
    not_above v h = grind (arith, nat_tests)

pub number_large : (rest : List ℕ) (n value : ℕ) → 0 < length rest → is_ascii_digit (get_or rest 0 0) ≡ true → n ≤ length rest → ((k : ℕ) → k < n → is_ascii_digit (get_or rest k 0) ≡ true) → (n < length rest → is_ascii_digit (get_or rest n 0) ≡ false) → value ≡ min (number_value (take n rest)) (2 ^ 32 - 1) → 2147483647 < value → IsTooLarge rest
number_large rest n value some d within each stop is large =
    let found = first_number rest n some d within each stop in
    let high : 2147483647 < number_value (take n rest) = omega arith in
    record {
      len = n;
      first = found.0;
      large = λ i. found.2 i && above (number_value (take n rest)) high i;
    }
  where
    above : (v : ℕ) → 2147483647 < v → nat_lt 2147483647 v ≡ true
    above v h = grind (arith, nat_tests)

-- what begins with `/` is no token
slash_kind : (bs : List ℕ) → None ≡ kind_of (47 ∷ bs)
slash_kind [] = refl
slash_kind (c ∷ []) = refl
slash_kind (c ∷ d ∷ bs) = refl

-- a comment, which begins with `/`
pub comment_found : (rest : List ℕ) (n : ℕ) → get_or rest 0 0 ≡ 47 → IsFirstPiece rest n → IsFirst rest (record { kind = None; len = n })
comment_found rest n slash first = record {
  first = first;
  kind = none rest n slash first.some first.within;
  fits = fits_front rest n (slash_no_digit (get_or rest 0 0) slash);
}
  where
    none : (rest : List ℕ) (n : ℕ) → get_or rest 0 0 ≡ 47 → 0 < n → n ≤ length rest → None ≡ kind_of (take n rest)
    none rest zero slash some within = absurd (omega arith)
    none [] (suc n) slash some within = absurd (omega arith)
    none (b ∷ bs) (suc n) slash some within = slash_kind (take n bs) ∙ ap (λ v. kind_of (v ∷ take n bs)) (sym slash)

-- a `/` at the end
pub slash_last : (rest : List ℕ) → get_or rest 0 0 ≡ 47 → length rest ≡ 1 → IsStray rest
slash_last [] slash size = absurd (omega arith)
slash_last (b ∷ []) slash size = subst (λ v. IsStray (v ∷ [])) (sym slash) stray_last
slash_last (b ∷ c ∷ bs) slash size = absurd (omega arith)

-- a `/` before another byte
pub slash_alone : (rest : List ℕ) → 2 ≤ length rest → get_or rest 0 0 ≡ 47 → get_or rest 1 0 ≢ 47 → get_or rest 1 0 ≢ 42 → IsStray rest
slash_alone [] size slash a b = absurd (omega arith)
slash_alone (x ∷ []) size slash a b = absurd (omega arith)
slash_alone (x ∷ c ∷ bs) size slash a b = subst (λ v. IsStray (v ∷ c ∷ bs)) (sym slash) (stray_slash c bs (differs c 47 a) (differs c 42 b))
  where
    differs : (m n : ℕ) → m ≢ n → (m == n) ≡ false
    differs m n h = grind (arith, nat_tests)
