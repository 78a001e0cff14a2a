-- Which piece comes first, by the bytes at the front.
use Rattle.std.proofs.Common.{◌≡◌, ℕ, zero, suc, ◌<◌, ◌≤◌, Bool, true, false, List, [], ◌∷◌, length, get_or, take, Some, None, sym, refl, ◌∙◌, arith}
use Rattle.std.specs.Prelude.{is_some, ◌||◌, ◌&&◌, if◌then◌else◌}
use Rattle.std.specs.List.{list_all}
use Rattle.std.specs.Char.{is_ascii_digit}
use Rattle.std.proofs.lemmas.Bool.Decides.{nat_tests}
use Rattle.std.proofs.lemmas.Bool.{and_right, false≢true}
use Rattle.source.specs.declared.kind.Kind.TheVariants.{Number}
use Rattle.source.specs.Classes.{is_blank_byte, starts_word, in_word}
use Rattle.source.specs.Comments.{is_comment}
use Rattle.source.specs.Pieces.{is_piece, is_word, is_number, kind_of}
use Rattle.source.specs.Words.{symbol, word_kind}
use Rattle.source.specs.Cutting.{IsFirstPiece}
use Rattle.source.proofs.FrontLemmas.{front_word, front_digit, front_blank, digit_no_word, blank_no_word, blank_no_digit, blank_no_symbol}

-- the first k bytes pass a test
pub all_taken : (q : ℕ → Bool) (bs : List ℕ) (k : ℕ) → k ≤ length bs → ((j : ℕ) → j < k → q (get_or bs j 0) ≡ true) → list_all q (take k bs) ≡ true
all_taken q bs zero high each = refl
all_taken q [] (suc k) high each = refl
all_taken q (b ∷ bs) (suc k) high each = λ i. each 0 (omega arith) i && all_taken q bs k (omega arith) (λ j h. each (suc j) (omega arith)) i

-- more than k of them do not, if the next one fails it
pub not_all_taken : (q : ℕ → Bool) (bs : List ℕ) (k m : ℕ) → k < m → k < length bs → q (get_or bs k 0) ≡ false → list_all q (take m bs) ≡ false
not_all_taken q bs k zero low high stop = absurd (omega arith)
not_all_taken q [] k (suc m) low high stop = absurd (omega arith)
not_all_taken q (b ∷ bs) zero (suc m) low high stop = λ i. stop i && list_all q (take m bs)
not_all_taken q (b ∷ bs) (suc k) (suc m) low high stop = and_right (q b) (list_all q (take m bs)) (not_all_taken q bs k m (omega arith) (omega arith) stop)

-- a run: a byte and all bytes after it that pass a test
run_first : (q : ℕ → Bool) (b : ℕ) (bs : List ℕ) (k : ℕ) → ((m : ℕ) → is_piece (b ∷ take m bs) ≡ list_all q (take m bs)) → k ≤ length bs → ((j : ℕ) → j < k → q (get_or bs j 0) ≡ true) → (k < length bs → q (get_or bs k 0) ≡ false) → IsFirstPiece (b ∷ bs) (suc k)
run_first q b bs k front within each stop = record {
  some = omega arith;
  within = omega arith;
  piece = front k ∙ all_taken q bs k within each;
  longest = λ m low high. longer m low high;
}
  where
    longer : (m : ℕ) → suc k < m → m ≤ length (b ∷ bs) → is_piece (take m (b ∷ bs)) ≡ false
    longer zero low high = absurd (omega arith)
    longer (suc m) low high = front m ∙ not_all_taken q bs k m (omega arith) (omega arith) (stop (omega arith))

word_goes_on : (b : ℕ) → starts_word b ≡ true → in_word b ≡ true
word_goes_on b h = grind (arith, nat_tests)

-- a word, of n bytes
pub first_word : (rest : List ℕ) (n : ℕ) → 0 < length rest → starts_word (get_or rest 0 0) ≡ true → n ≤ length rest → ((k : ℕ) → k < n → in_word (get_or rest k 0) ≡ true) → (n < length rest → in_word (get_or rest n 0) ≡ false) → IsFirstPiece rest n × (Some (word_kind (take n rest)) ≡ kind_of (take n rest))
first_word [] n some w within each stop = absurd (omega arith)
first_word (b ∷ bs) zero some w within each stop = absurd (false≢true (sym (stop (omega arith)) ∙ word_goes_on b w))
first_word (b ∷ bs) (suc k) some w within each stop =
    let all : list_all in_word (take k bs) ≡ true = all_taken in_word bs k (omega arith) (λ j h. each (suc j) (omega arith)) in (
      run_first in_word b bs k (λ m. front_word b (take m bs) w) (omega arith) (λ j h. each (suc j) (omega arith)) (λ h. stop (omega arith)),
      sym (λ i. if w i && all i then Some (word_kind (b ∷ take k bs)) else (if is_number (b ∷ take k bs) then Some Number else symbol (b ∷ take k bs))),
    )

-- a number, of n digits
pub first_number : (rest : List ℕ) (n : ℕ) → 0 < length rest → is_ascii_digit (get_or rest 0 0) ≡ true → n ≤ length rest → ((k : ℕ) → k < n → is_ascii_digit (get_or rest k 0) ≡ true) → (n < length rest → is_ascii_digit (get_or rest n 0) ≡ false) → IsFirstPiece rest n × (Some Number ≡ kind_of (take n rest)) × (is_number (take n rest) ≡ true)
first_number [] n some d within each stop = absurd (omega arith)
first_number (b ∷ bs) zero some d within each stop = absurd (false≢true (sym (stop (omega arith)) ∙ d))
first_number (b ∷ bs) (suc k) some d within each stop =
    let all : list_all is_ascii_digit (take k bs) ≡ true = all_taken is_ascii_digit bs k (omega arith) (λ j h. each (suc j) (omega arith)) in (
      run_first is_ascii_digit b bs k (λ m. front_digit b (take m bs) d) (omega arith) (λ j h. each (suc j) (omega arith)) (λ h. stop (omega arith)),
      sym (λ i. if digit_no_word b d i && list_all in_word (take k bs) then Some (word_kind (b ∷ take k bs)) else (if d i && all i then Some Number else symbol (b ∷ take k bs))),
      λ i. d i && all i,
    )

-- a blank
pub first_blank : (rest : List ℕ) → 0 < length rest → is_blank_byte (get_or rest 0 0) ≡ true → IsFirstPiece rest 1 × (None ≡ kind_of (take 1 rest))
first_blank [] some blank = absurd (omega arith)
first_blank (b ∷ bs) some blank = (
  record {
    some = omega arith;
    within = omega arith;
    piece = λ i. (((blank i || is_comment (b ∷ [])) || is_word (b ∷ [])) || is_number (b ∷ [])) || is_some (symbol (b ∷ []));
    longest = λ m low high. longer b bs m low high blank;
  },
  sym (λ i. if blank_no_word b blank i && true then Some (word_kind (b ∷ [])) else (if blank_no_digit b blank i && true then Some Number else blank_no_symbol b [] blank i)),
)
  where
    longer : (b : ℕ) (bs : List ℕ) (m : ℕ) → 1 < m → m ≤ length (b ∷ bs) → is_blank_byte b ≡ true → is_piece (take m (b ∷ bs)) ≡ false
    longer b bs zero low high blank = absurd (omega arith)
    longer b bs (suc zero) low high blank = absurd (omega arith)
    longer b [] (suc (suc m)) low high blank = absurd (omega arith)
    longer b (c ∷ bs) (suc (suc m)) low high blank = front_blank b c (take m bs) blank
