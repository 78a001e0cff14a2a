-- The finding that too many pairs are reached.
use Rattle.std.proofs.Common.{◌≡◌, ℕ, zero, suc, ◌<◌, Contains, inl, inr, List, [], ◌∷◌, length, get_or, sym, ap, subst, codes, arith}
use Rattle.std.specs.List.{All}
use Rattle.source.specs.Findings.{FindingModel, IsFinding, finding_model}
use Rattle.source.specs.declared.finding.Finding.{Finding}
use Rattle.source.specs.declared.finding.Code.TheVariants.{A14}
use Rattle.source.specs.declared.place.Place.{Place}
use Rattle.program.specs.Programs.{ProgramModel}
use Rattle.analyse.specs.Verdicts.{HasTooMany, IsMethodVerdict, place_of_method, too_many_pairs}
use Rattle.explanations.specs.Lines.{line, line_model}
use Rattle.explanations.specs.declared.line.Line.{Line}
use Rattle.analyse.proofs.ListLemmas.{has_here, only_one}

pub parts_of : (finding : Finding) (place : Place) → IsFinding place A14 (codes "too many pairs") finding → finding_model finding ≡ too_many_pairs place
parts_of finding place is = λ i. record { place = is.place i; code = is.code i; text = is.text i }

-- that finding alone is the verdict
pub one_verdict : (p : ProgramModel) (method : ℕ) → HasTooMany p method → (found : List FindingModel) → found ≡ too_many_pairs (place_of_method p method) ∷ [] → IsMethodVerdict p method found
one_verdict p method many found is = record {
  exactly = λ f. (
    λ h. inl (many, sym (only_one (too_many_pairs (place_of_method p method)) f (subst (λ l. Contains l f) is h))),
    λ h. elim h [
      | inl one ↦ subst (λ l. Contains l f) (sym is) (subst (Contains (too_many_pairs (place_of_method p method) ∷ [])) (sym one.1) (has_here (too_many_pairs (place_of_method p method)) []))
      | inr few ↦ absurd (few.0 many)
    ],
  );
  once = λ _. ap length is;
}

pub all_one : {X : Type 0} (P : X → Type 0) (xs : List X) (x : X) → xs ≡ x ∷ [] → P x → All P xs
all_one {X} P xs x is h = subst (All P) (sym is) (λ k d lt. first k d lt)
  where
    first : (k : ℕ) (d : X) → k < 1 → P (get_or (x ∷ []) k d)
    first zero d lt = h
    first (suc k) d lt = absurd (omega (arith, lt))

-- a line by its parts
pub is_line : (l : Line) (place : Place) (text : List ℕ) → l.place ≡ place → l.text.items ≡ text → line_model l ≡ line place text
is_line l place text at says = λ i. record { place = at i; text = says i }
