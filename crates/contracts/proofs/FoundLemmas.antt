-- Findings index by index.
use Rattle.std.proofs.Common.{◌≡◌, ℕ, ◌+◌, List, [], ◌∷◌, ◌++◌, subst, arith, ⊎_elim}
use Rattle.std.specs.Prelude.{Contains}
use Rattle.std.proofs.lemmas.List.Elements.{Contains-push_cases, Contains-append_left, Contains-push}
use Rattle.std.proofs.lemmas.Bool.{cases_eq}
use Rattle.contracts.specs.Conditions.{FindingModel}
use Rattle.contracts.specs.Found.{FoundBelow}
use Rattle.contracts.proofs.ArcLemmas.{none_in}

pub found_none : (At : ℕ → FindingModel → Type 0) → FoundBelow At 0 []
found_none At = record { right = λ f c. absurd (none_in f c); all = λ i f lt is. absurd (omega (arith, lt)) }

-- there is no finding at the next index
pub found_same : (At : ℕ → FindingModel → Type 0) (n : ℕ) (found : List FindingModel) → FoundBelow At n found → ((f : FindingModel) → At n f → ⊥) → FoundBelow At (n + 1) found
found_same At n found h nothing = record {
  right = λ f c. let r = h.right f c in let lt = r.1 in (r.0, omega (arith, lt), r.2);
  all = λ i f lt is. ⊎_elim
      (λ same. absurd (nothing f (subst (λ x. At x f) same is)))
      (λ other. h.all i f (grind (arith, lt, other)) is)
      (cases_eq i n);
}

-- there is one finding at the next index
pub found_more : (At : ℕ → FindingModel → Type 0) (n : ℕ) (found : List FindingModel) (g : FindingModel) → FoundBelow At n found → At n g → ((f : FindingModel) → At n f → g ≡ f) → FoundBelow At (n + 1) (found ++ g ∷ [])
found_more At n found g h here alone = record {
  right = λ f c. ⊎_elim
      (λ old. let r = h.right f old in let lt = r.1 in (r.0, omega (arith, lt), r.2))
      (λ new. (n, omega arith, subst (λ x. At n x) new here))
      (Contains-push_cases found g f c);
  all = λ i f lt is. ⊎_elim
      (λ same. subst (Contains (found ++ g ∷ [])) (alone f (subst (λ x. At x f) same is)) (Contains-push found g))
      (λ other. Contains-append_left found (g ∷ []) f (h.all i f (grind (arith, lt, other)) is))
      (cases_eq i n);
}
