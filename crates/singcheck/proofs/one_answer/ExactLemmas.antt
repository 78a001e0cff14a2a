-- All findings of contracts, or of methods, are a list if those of each one are.
use Rattle.std.proofs.Common.{◌≡◌, ◌<◌, ℕ, zero, suc, ◌⊎◌, inl, inr, List, [], ◌∷◌, ◌++◌, refl, sym, subst, arith, ⊎_elim}
use Rattle.std.specs.Prelude.{◌≢◌, All, Contains, length}
use Rattle.std.proofs.Math.Nat.{eq-or-lt_of_le}
use Rattle.std.proofs.lemmas.List.Elements.{Contains-append_left, Contains-append_right, Contains-append_cases, Contains-get_or}
use Rattle.source.specs.Findings.{FindingModel}
use Rattle.program.specs.Programs.{ProgramModel}
use Rattle.program.specs.Parts.{Parts, ContractModel}
use Rattle.contracts.specs.Conditions as conditions
use Rattle.contracts.specs.Conditions.{AreExactly, IsSound}
use Rattle.analyse.specs.Verdicts.{IsFoundIn, IsMethodVerdict}
use Rattle.singcheck.specs.Answers.{IsBroken}
use Rattle.singcheck.specs.Checks.{IsWrong}
use Rattle.singcheck.proofs.one_answer.SameLemmas.{behind_front, front_or_behind, nothing_in}
use Rattle.singcheck.proofs.VerdictLemmas.{verdict_exactly}
use Rattle.sound.proofs.Quiet.{contains_first}

pub empty_or_not : (found : List FindingModel) → (found ≡ []) ⊎ (found ≢ [])
empty_or_not [] = inl refl
empty_or_not (f ∷ fs) = inr (λ e. cc)

pub nothing_so : (P : FindingModel → Type 0) (found : List FindingModel) → AreExactly P found → found ≡ [] → (f : FindingModel) → P f → ⊥
nothing_so P found are none f p = nothing_in f (subst (λ l. Contains l f) none (are.all f p))

-- what holds for one of two reasons
both : (P Q R : FindingModel → Type 0) (xs ys : List FindingModel) → AreExactly P xs → AreExactly Q ys
    → ((f : FindingModel) → P f ⊎ Q f → R f) → ((f : FindingModel) → R f → P f ⊎ Q f) → AreExactly R (xs ++ ys)
both P Q R xs ys one other so why = record {
  right = λ f h. so f (⊎_elim (λ k. inl (one.right f k)) (λ k. inr (other.right f k)) (Contains-append_cases xs ys f h));
  all = λ f r. ⊎_elim (λ p. Contains-append_left xs ys f (one.all f p)) (λ q. Contains-append_right xs ys f (other.all f q)) (why f r);
}

pub broken_some : ((parts : Parts) → ((found : List FindingModel) → AreExactly (conditions.IsFlaw parts) found → ⊥) → ⊥)
    → (contracts : List ContractModel) → ((found : List FindingModel) → AreExactly (IsBroken contracts) found → ⊥) → ⊥
broken_some judged [] none = none [] (record { right = λ f h. absurd (nothing_in f h); all = λ f b. absurd (nothing_in b.0 b.1) })
broken_some judged (c ∷ cs) none =
    judged c.parts (λ here one. broken_some judged cs (λ later others.
    none (here ++ later) (both (conditions.IsFlaw c.parts) (IsBroken cs) (IsBroken (c ∷ cs)) here later one others broken which)))
  where
    broken : (f : FindingModel) → conditions.IsFlaw c.parts f ⊎ IsBroken cs f → IsBroken (c ∷ cs) f
    broken f (inl k) = (c, contains_first c cs, k)
    broken f (inr k) = (k.0, behind_front c k.0 cs k.1, k.2)

    which : (f : FindingModel) → IsBroken (c ∷ cs) f → conditions.IsFlaw c.parts f ⊎ IsBroken cs f
    which f b = ⊎_elim
        (λ same. inl (subst (λ x. conditions.IsFlaw x.parts f) (sym same) b.2))
        (λ behind. inr (b.0, behind, b.2))
        (front_or_behind c b.0 cs b.1)

-- if no contract is broken, each is sound
pub all_sound : (contracts : List ContractModel) → ((f : FindingModel) → IsBroken contracts f → ⊥) → All (λ c. IsSound c.parts) contracts
all_sound contracts none = λ k d lt f fault. none f (_, Contains-get_or contracts k d lt, fault)

-- a finding of a method with a number less than this
abbrev IsWrongBelow : ProgramModel → ℕ → FindingModel → Type 0
IsWrongBelow p most f = (n : ℕ) × (n < most) × IsFoundIn p n f

wrong_below : ((p : ProgramModel) (n : ℕ) → ((found : List FindingModel) → IsMethodVerdict p n found → ⊥) → ⊥)
    → (p : ProgramModel) (most : ℕ) → ((found : List FindingModel) → AreExactly (IsWrongBelow p most) found → ⊥) → ⊥
wrong_below verdicts p zero none =
    none [] (record { right = λ f h. absurd (nothing_in f h); all = λ f w. let below = w.1 in absurd (omega (arith, below)) })
wrong_below verdicts p (suc n) none =
    wrong_below verdicts p n (λ before earlier. verdicts p n (λ here verdict.
    let last = verdict_exactly p n here verdict in
    none (before ++ here)
    (both (IsWrongBelow p n) (IsFoundIn p n) (IsWrongBelow p (suc n)) before here earlier last wrong which)))
  where
    wrong : (f : FindingModel) → IsWrongBelow p n f ⊎ IsFoundIn p n f → IsWrongBelow p (suc n) f
    wrong f (inl k) = let below = k.1 in (k.0, omega arith, k.2)
    wrong f (inr k) = (n, omega arith, k)

    which : (f : FindingModel) → IsWrongBelow p (suc n) f → IsWrongBelow p n f ⊎ IsFoundIn p n f
    which f w = ⊎_elim
        (λ same. inr (subst (λ k. IsFoundIn p k f) same w.2))
        (λ less. inl (w.0, less, w.2))
        (eq-or-lt_of_le (let below = w.1 in omega (arith, below)))

pub wrong_some : ((p : ProgramModel) (n : ℕ) → ((found : List FindingModel) → IsMethodVerdict p n found → ⊥) → ⊥)
    → (p : ProgramModel) → ((found : List FindingModel) → AreExactly (IsWrong p) found → ⊥) → ⊥
wrong_some verdicts p = wrong_below verdicts p (length p.methods)
