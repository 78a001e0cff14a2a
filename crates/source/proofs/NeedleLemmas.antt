-- What a search for `*/` finds.
use Rattle.std.proofs.Common.{◌≡◌, ℕ, zero, suc, ◌+◌, ◌<◌, List, [], ◌∷◌, length, get_or, Some, None, ⊎_elim, sym, ◌∙◌, ap, subst, arith}
use Rattle.std.proofs.lemmas.Bool.{cases_lt}
use Rattle.source.specs.Cutting.{IsFirstPiece}
use Rattle.source.specs.Faults.{IsOpenComment}
use Rattle.source.proofs.BlockLemmas.{first_block, open_block}
use Rattle.bstr.specs.Find.{FindsNeedle, OccursAt}

abbrev pub closing : List ℕ
closing = 42 ∷ 47 ∷ []

pub occurs : (bs : List ℕ) (k : ℕ) → suc k < length bs → get_or bs k 0 ≡ 42 → get_or bs (suc k) 0 ≡ 47 → OccursAt bs closing k
occurs bs k within star slash = record { fits = omega arith; reads = reads }
  where
    reads : (j : ℕ) → j < 2 → get_or bs (k + j) 0 ≡ get_or closing j 0
    reads zero h = ap (λ n. get_or bs n 0) (omega arith) ∙ star
    reads (suc zero) h = ap (λ n. get_or bs n 0) (omega arith) ∙ slash
    reads (suc (suc j)) h = absurd (omega arith)

-- it is at this index, and nowhere before
pub record Found (bs : List ℕ) (k : ℕ) : Type 0 where
  pub within : suc k < length bs
  pub star : get_or bs k 0 ≡ 42
  pub slash : get_or bs (suc k) 0 ≡ 47
  pub none : (j : ℕ) → j < k → get_or bs j 0 ≡ 42 → get_or bs (suc j) 0 ≡ 47 → ⊥

pub found_at : (bs : List ℕ) (k : ℕ) → FindsNeedle bs closing 0 (Some k) → Found bs k
found_at bs k h = record {
  within = omega (arith, h.1.fits);
  star = ap (λ n. get_or bs n 0) (omega arith) ∙ h.1.reads 0 (omega arith);
  slash = ap (λ n. get_or bs n 0) (omega arith) ∙ h.1.reads 1 (omega arith);
  none = λ j lt star slash. h.0.before j (omega arith) lt (occurs bs j (omega (arith, h.1.fits)) star slash);
}

pub found_none : (bs : List ℕ) → FindsNeedle bs closing 0 None → (j : ℕ) → j + 1 < length bs → get_or bs j 0 ≡ 42 → get_or bs (suc j) 0 ≡ 47 → ⊥
found_none bs h j within star slash = h j (omega arith) (omega arith) (occurs bs j (omega arith) star slash)

-- a comment that ends
pub block_found : (rest bs needle : List ℕ) (k : ℕ) → rest ≡ 47 ∷ 42 ∷ bs → needle ≡ closing → FindsNeedle bs needle 0 (Some k) → IsFirstPiece rest (k + 4)
block_found rest bs needle k e is h =
    let at : Found bs k = found_at bs k (subst (λ n. FindsNeedle bs n 0 (Some k)) is h) in
    let size : suc (suc (suc (suc k))) ≡ k + 4 = omega arith in
    subst (λ t. IsFirstPiece t (k + 4)) (sym e) (subst (λ m. IsFirstPiece (47 ∷ 42 ∷ bs) m) size (first_block bs k at.within at.star at.slash at.none))

-- a comment that does not
pub block_open : (rest bs needle : List ℕ) → rest ≡ 47 ∷ 42 ∷ bs → needle ≡ closing → FindsNeedle bs needle 0 None → IsOpenComment rest
block_open rest bs needle e is h =
    subst IsOpenComment (sym e) (open_block bs (found_none bs (subst (λ n. FindsNeedle bs n 0 None) is h)))

-- it is nowhere before an index, nor at that index
pub none_yet : (bs : List ℕ) (i : ℕ) → ((j : ℕ) → j < i → OccursAt bs closing j → ⊥) → (get_or bs i 0 ≡ 42 → get_or bs (i + 1) 0 ≡ 47 → ⊥) → (j : ℕ) → j < i + 1 → OccursAt bs closing j → ⊥
none_yet bs i none here j lt h = ⊎_elim (λ less. none j less h) (λ le. not_here (omega (arith, lt, le))) (cases_lt j i)
  where
    not_here : j ≡ i → ⊥
    not_here is = here (ap (λ n. get_or bs n 0) (omega (arith, is)) ∙ h.reads 0 (omega arith)) (ap (λ n. get_or bs (n + 1) 0) (sym is) ∙ h.reads 1 (omega arith))
