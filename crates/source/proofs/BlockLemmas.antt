-- The comment that begins with `/*`, and a lone `/`.
use Rattle.std.proofs.Common.{◌≡◌, ℕ, zero, suc, ◌+◌, ◌<◌, ◌≤◌, true, false, List, [], ◌∷◌, length, get_or, take, refl, ◌∙◌, arith, eq-eqb}
use Rattle.std.specs.Prelude.{◌&&◌, ◌||◌, ◌==◌, if◌then◌else◌}
use Rattle.std.specs.List.{list_all}
use Rattle.std.proofs.lemmas.Bool.Decides.{nat_tests}
use Rattle.source.specs.Comments.{is_none_left, closes, closes_behind}
use Rattle.source.specs.Pieces.{is_piece}
use Rattle.source.specs.Cutting.{IsFirstPiece}
use Rattle.source.specs.Faults.{IsStray, IsOpenComment}
use Rattle.source.proofs.FrontLemmas.{front_slash}
use Rattle.source.proofs.CommentLemmas.{in_line}

not_both : (a b : ℕ) → (a ≡ 42 → b ≡ 47 → ⊥) → (a == 42 && b == 47) ≡ false
not_both a b h = grind (arith, nat_tests)

-- the first `*/` after a byte ends the bytes
behind_true : (a : ℕ) (bs : List ℕ) (k : ℕ) → k < length bs → get_or (a ∷ bs) k 0 ≡ 42 → get_or bs k 0 ≡ 47 → ((j : ℕ) → j < k → get_or (a ∷ bs) j 0 ≡ 42 → get_or bs j 0 ≡ 47 → ⊥) → closes_behind a (take (suc k) bs) ≡ true
behind_true a [] k within star slash none = absurd (omega arith)
behind_true a (b ∷ bs) zero within star slash none = λ i. if eq-eqb a 42 star i && eq-eqb b 47 slash i then true else closes_behind b []
behind_true a (b ∷ bs) (suc k) within star slash none =
    (λ i. if not_both a b (none 0 (omega arith)) i then is_none_left (take (suc k) bs) else closes_behind b (take (suc k) bs))
    ∙ behind_true b bs k (omega arith) star slash (λ j h. none (suc j) (omega arith))

-- and no more bytes end so
behind_longer : (a : ℕ) (bs : List ℕ) (k m : ℕ) → k < length bs → get_or (a ∷ bs) k 0 ≡ 42 → get_or bs k 0 ≡ 47 → ((j : ℕ) → j < k → get_or (a ∷ bs) j 0 ≡ 42 → get_or bs j 0 ≡ 47 → ⊥) → suc k < m → m ≤ length bs → closes_behind a (take m bs) ≡ false
behind_longer a bs k zero within star slash none low high = absurd (omega arith)
behind_longer a [] k (suc m) within star slash none low high = absurd (omega arith)
behind_longer a (b ∷ bs) zero (suc zero) within star slash none low high = absurd (omega arith)
behind_longer a (b ∷ []) zero (suc (suc m)) within star slash none low high = absurd (omega arith)
behind_longer a (b ∷ c ∷ bs) zero (suc (suc m)) within star slash none low high = λ i. if eq-eqb a 42 star i && eq-eqb b 47 slash i then false else closes_behind b (c ∷ take m bs)
behind_longer a (b ∷ bs) (suc k) (suc m) within star slash none low high =
    (λ i. if not_both a b (none 0 (omega arith)) i then is_none_left (take m bs) else closes_behind b (take m bs))
    ∙ behind_longer b bs k m (omega arith) star slash (λ j h. none (suc j) (omega arith)) (omega arith) (omega arith)

-- if there is none, no bytes end so
behind_never : (a : ℕ) (bs : List ℕ) (m : ℕ) → ((j : ℕ) → j < length bs → get_or (a ∷ bs) j 0 ≡ 42 → get_or bs j 0 ≡ 47 → ⊥) → closes_behind a (take m bs) ≡ false
behind_never a bs zero none = refl
behind_never a [] (suc m) none = refl
behind_never a (b ∷ bs) (suc m) none =
    (λ i. if not_both a b (none 0 (omega arith)) i then is_none_left (take m bs) else closes_behind b (take m bs))
    ∙ behind_never b bs m (λ j h. none (suc j) (omega arith))

closes_never : (bs : List ℕ) (m : ℕ) → ((j : ℕ) → j + 1 < length bs → get_or bs j 0 ≡ 42 → get_or bs (suc j) 0 ≡ 47 → ⊥) → closes (take m bs) ≡ false
closes_never bs zero none = refl
closes_never [] (suc m) none = refl
closes_never (a ∷ bs) (suc m) none = behind_never a bs m (λ j h. none j (omega arith))

-- a block comment, with `*/` at index k after the `/*`
pub first_block : (bs : List ℕ) (k : ℕ) → suc k < length bs → get_or bs k 0 ≡ 42 → get_or bs (suc k) 0 ≡ 47 → ((j : ℕ) → j < k → get_or bs j 0 ≡ 42 → get_or bs (suc j) 0 ≡ 47 → ⊥) → IsFirstPiece (47 ∷ 42 ∷ bs) (suc (suc (suc (suc k))))
first_block [] k within star slash none = absurd (omega arith)
first_block (a ∷ bs) k within star slash none = record {
  some = omega arith;
  within = omega arith;
  piece = front_slash (42 ∷ a ∷ take (suc k) bs) ∙ behind_true a bs k (omega arith) star slash none;
  longest = longer a bs k within star slash none;
}
  where
    longer : (a : ℕ) (bs : List ℕ) (k : ℕ) → suc k < length (a ∷ bs) → get_or (a ∷ bs) k 0 ≡ 42 → get_or bs k 0 ≡ 47 → ((j : ℕ) → j < k → get_or (a ∷ bs) j 0 ≡ 42 → get_or bs j 0 ≡ 47 → ⊥) → (m : ℕ) → suc (suc (suc (suc k))) < m → m ≤ length (47 ∷ 42 ∷ a ∷ bs) → is_piece (take m (47 ∷ 42 ∷ a ∷ bs)) ≡ false
    longer a bs k within star slash none zero low high = absurd (omega arith)
    longer a bs k within star slash none (suc zero) low high = absurd (omega arith)
    longer a bs k within star slash none (suc (suc zero)) low high = absurd (omega arith)
    longer a bs k within star slash none (suc (suc (suc m))) low high =
        front_slash (42 ∷ a ∷ take m bs) ∙ behind_longer a bs k m (omega arith) star slash none (omega arith) (omega arith)

-- a comment that does not end
pub open_block : (bs : List ℕ) → ((j : ℕ) → j + 1 < length bs → get_or bs j 0 ≡ 42 → get_or bs (suc j) 0 ≡ 47 → ⊥) → IsOpenComment (47 ∷ 42 ∷ bs)
open_block bs never = record { begins = refl; none = record { none = none bs never } }
  where
    none : (bs : List ℕ) → ((j : ℕ) → j + 1 < length bs → get_or bs j 0 ≡ 42 → get_or bs (suc j) 0 ≡ 47 → ⊥) → (m : ℕ) → m ≤ length (47 ∷ 42 ∷ bs) → is_piece (take m (47 ∷ 42 ∷ bs)) ≡ false
    none bs never zero high = refl
    none bs never (suc zero) high = refl
    none bs never (suc (suc m)) high = front_slash (42 ∷ take m bs) ∙ closes_never bs m never

-- a slash at the end
pub stray_last : IsStray (47 ∷ [])
stray_last = record { some = omega arith; none = record { none = none }; other = refl }
  where
    none : (m : ℕ) → m ≤ 1 → is_piece (take m (47 ∷ [])) ≡ false
    none zero high = refl
    none (suc zero) high = refl
    none (suc (suc m)) high = absurd (omega arith)

-- a slash before another byte
pub stray_slash : (c : ℕ) (bs : List ℕ) → (c == 47) ≡ false → (c == 42) ≡ false → IsStray (47 ∷ c ∷ bs)
stray_slash c bs slash star = record { some = omega arith; none = record { none = none c bs slash star }; other = star }
  where
    none : (c : ℕ) (bs : List ℕ) → (c == 47) ≡ false → (c == 42) ≡ false → (m : ℕ) → m ≤ length (47 ∷ c ∷ bs) → is_piece (take m (47 ∷ c ∷ bs)) ≡ false
    none c bs slash star zero high = refl
    none c bs slash star (suc zero) high = refl
    none c bs slash star (suc (suc m)) high = front_slash (c ∷ take m bs) ∙ (λ i. slash i && list_all in_line (take m bs) || star i && closes (take m bs))
