-- Which comment comes first.
use Rattle.std.proofs.Common.{◌≡◌, ℕ, zero, suc, ◌+◌, ◌-◌, ◌<◌, ◌≤◌, Bool, true, false, List, [], ◌∷◌, length, get_or, take, Some, None, Option, sym, refl, ◌∙◌, ap, subst, arith, not, drop, ◌++◌, take-append-drop}
use Rattle.bstr.specs.Find.{IsFirstByte, is_byte}
use Rattle.std.proofs.lemmas.List.{take_rest}
use Rattle.std.specs.Prelude.{unwrap_or, ◌==◌}
use Rattle.std.specs.List.{list_all}
use Rattle.std.proofs.Math.Bool.{or-false}
use Rattle.source.specs.Comments.{closes}
use Rattle.source.specs.Pieces.{is_piece}
use Rattle.source.specs.Places.{ends_line}
use Rattle.source.specs.Cutting.{IsFirstPiece}
use Rattle.source.proofs.FrontLemmas.{front_slash}
use Rattle.source.proofs.FirstLemmas.{all_taken, not_all_taken}

-- whether a byte continues a line
abbrev pub in_line : ℕ → Bool
in_line b = not (ends_line b)

front_line : (bs : List ℕ) → is_piece (47 ∷ 47 ∷ bs) ≡ list_all in_line bs
front_line bs = front_slash (47 ∷ bs) ∙ or-false (list_all in_line bs)

front_block : (bs : List ℕ) → is_piece (47 ∷ 42 ∷ bs) ≡ closes bs
front_block bs = front_slash (42 ∷ bs)

-- a line comment, with k bytes after the slashes
pub first_line : (bs : List ℕ) (k : ℕ) → k ≤ length bs → ((j : ℕ) → j < k → in_line (get_or bs j 0) ≡ true) → (k < length bs → in_line (get_or bs k 0) ≡ false) → IsFirstPiece (47 ∷ 47 ∷ bs) (suc (suc k))
first_line bs k within each stop = record {
  some = omega arith;
  within = omega arith;
  piece = front_line (take k bs) ∙ all_taken in_line bs k within each;
  longest = longer;
}
  where
    longer : (m : ℕ) → suc (suc k) < m → m ≤ length (47 ∷ 47 ∷ bs) → is_piece (take m (47 ∷ 47 ∷ bs)) ≡ false
    longer zero low high = absurd (omega arith)
    longer (suc zero) low high = absurd (omega arith)
    longer (suc (suc m)) low high = front_line (take m bs) ∙ not_all_taken in_line bs k m (omega arith) (omega arith) (stop (omega arith))

-- what begins with two bytes is these and what follows them
pub two_front : (rest : List ℕ) (a b : ℕ) → take 2 rest ≡ a ∷ b ∷ [] → rest ≡ a ∷ b ∷ take (length rest - 2) (drop 2 rest)
two_front rest a b h = sym (take-append-drop 2 rest) ∙ (λ i. h i ++ sym (take_rest rest 2) i)

goes_on_line : (b : ℕ) (t : Bool) → (b == 10) ≡ t → (t ≡ true → ⊥) → not t ≡ true
goes_on_line b true is h = absurd (h refl)
goes_on_line b false is h = refl

line_by : (bs : List ℕ) (r : Option ℕ) → IsFirstByte (is_byte 10) bs r → IsFirstPiece (47 ∷ 47 ∷ bs) (suc (suc (unwrap_or r (length bs))))
line_by bs None h = first_line bs (length bs) (omega arith) (λ j lt. goes_on_line (get_or bs j 0) (get_or bs j 0 == 10) refl (h j (omega arith) lt)) (λ lt. absurd (omega arith))
line_by bs (Some k) h = first_line bs k (omega (arith, h.0.high)) (λ j lt. goes_on_line (get_or bs j 0) (get_or bs j 0 == 10) refl (h.0.before j (omega arith) lt)) (λ lt. ap not h.1)

-- up to the end of the line, which is searched for after the slashes
pub line_found : (rest bs : List ℕ) (r : Option ℕ) (n : ℕ) → rest ≡ 47 ∷ 47 ∷ bs → IsFirstByte (is_byte 10) bs r → n ≡ unwrap_or r (length bs) → IsFirstPiece rest (2 + n)
line_found rest bs r n e h is =
    let size : suc (suc (unwrap_or r (length bs))) ≡ 2 + n = omega arith in
    subst (λ t. IsFirstPiece t (2 + n)) (sym e) (subst (λ m. IsFirstPiece (47 ∷ 47 ∷ bs) m) size (line_by bs r h))
