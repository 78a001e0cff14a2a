-- The verdicts of methods, in whatever order they arrived.
use Rattle.std.proofs.Common.{◌≡◌, ℕ, zero, suc, ◌+◌, ◌<◌, ◌==◌, Bool, true, false, cond, List, [], ◌∷◌, ◌++◌, length, map, refl, sym, subst, arith, ⊎_elim}
use Rattle.std.specs.Prelude.{Contains, Err, Ok, Result}
use Rattle.std.proofs.Math.Nat.{eq-or-lt_of_le}
use Rattle.std.proofs.lemmas.Bool.{eqb-true, eqb-false}
use Rattle.std.proofs.lemmas.List.Elements.{Contains-append_left, Contains-append_right, Contains-append_cases, Contains-push, Contains-push_cases}
use Rattle.std.proofs.lemmas.List.Sums.{sum_by-cons}
use Rattle.source.specs.Findings.{FindingModel, finding_model}
use Rattle.source.specs.declared.finding.Finding.{Finding}
use Rattle.contracts.specs.Conditions.{AreExactly}
use Rattle.program.specs.Programs.{ProgramModel}
use Rattle.tasks.specs.Tasks.{numbers_below}
use Rattle.analyse.specs.VerdictParts.{findings_of}
use Rattle.analyse.specs.Verdicts.{IsFoundIn, IsMethodVerdict}
use Rattle.analyse.specs.declared.verdict.Verdict.{Verdict}
use Rattle.pool.specs.Counts.{times}
use Rattle.rules.specs.Programs.{model_of}
use Rattle.rules.specs.declared.lowered.Program.{Program}
use Rattle.shelf.specs.declared.receipt.Receipt.{Receipt}
use Rattle.shelf.specs.declared.shelf.Shelf.{Shelf}
use Rattle.singcheck.specs.Checks.{IsWrong}
use Rattle.singcheck.specs.Verdicts.{AddsVerdict, AreOfMethods, HasVerdict, IsPut, IsWrongAmong}
use Rattle.singcheck.proofs.one_answer.SameLemmas.{nothing_in}

-- a verdict has exactly the findings of its method
pub verdict_exactly : (p : ProgramModel) (n : ℕ) (found : List FindingModel) → IsMethodVerdict p n found → AreExactly (IsFoundIn p n) found
verdict_exactly p n found verdict = record { right = λ f h. (verdict.exactly f).0 h; all = λ f w. (verdict.exactly f).1 w }

-- one more method
pub of_methods_then : (p : ProgramModel) (methods : List ℕ) (n : ℕ) (old more new : List FindingModel) → AreOfMethods p methods old → AreExactly (IsFoundIn p n) more → new ≡ old ++ more → AreOfMethods p (methods ++ n ∷ []) new
of_methods_then p methods n old more new so_far exactly added = record {
  right = λ f h. ⊎_elim
      (λ earlier. let r = so_far.right f earlier in (r.0, Contains-append_left methods (n ∷ []) r.0 r.1, r.2))
      (λ here. (n, Contains-push methods n, exactly.right f here))
      (Contains-append_cases old more f (subst (λ l. Contains l f) added h));
  all = λ f w. subst (λ l. Contains l f) (sym added) (which f w);
}
  where
    which : (f : FindingModel) → IsWrongAmong p (methods ++ n ∷ []) f → Contains (old ++ more) f
    which f w = ⊎_elim
        (λ earlier. Contains-append_left old more f (so_far.all f (w.0, earlier, w.2)))
        (λ (same : n ≡ w.0). Contains-append_right old more f (exactly.all f (subst (λ k. IsFoundIn p k f) (sym same) w.2)))
        (Contains-push_cases methods n w.0 w.1)

pub of_methods_more : (p : ProgramModel) (methods : List ℕ) (n : ℕ) (old new : List Finding) → AreOfMethods p methods (map finding_model old) → AddsVerdict p n old new → AreOfMethods p (methods ++ n ∷ []) (map finding_model new)
of_methods_more p methods n old new so_far adds = of_methods_then p methods n (map finding_model old) adds.more (map finding_model new) so_far adds.exactly adds.added

-- no method yet
pub of_no_methods : (p : ProgramModel) → AreOfMethods p [] []
of_no_methods p = record { right = λ f h. absurd (nothing_in f h); all = λ f w. absurd (nothing_in w.0 w.1) }

-- a number is in a list exactly if it occurs at least once
pub of_times : (n : ℕ) (xs : List ℕ) → 0 < times n xs → Contains xs n
of_times n [] h = absurd (omega (arith, h))
of_times n (x ∷ xs) h = by (of_times n xs) (x == n) refl (subst (λ k. 0 < k) (sum_by-cons (λ y. cond (y == n) 1 0) x xs) h)
  where
    by : (0 < times n xs → Contains xs n) → (b : Bool) → (x == n) ≡ b → 0 < cond b 1 0 + times n xs → Contains (x ∷ xs) n
    by rest true e l = (0, omega arith, eqb-true x n e)
    by rest false e l = Contains-append_right (x ∷ []) xs n (rest (omega (arith, l)))

first_is : (x n : ℕ) → Contains (x ∷ []) n → x ≡ n
first_is x n (zero, lt, is) = is
first_is x n (suc k, lt, is) = absurd (omega (arith, lt))

pub times_of : (n : ℕ) (xs : List ℕ) → Contains xs n → 0 < times n xs
times_of n [] h = absurd (nothing_in n h)
times_of n (x ∷ xs) h = subst (λ k. 0 < k) (sym (sum_by-cons (λ y. cond (y == n) 1 0) x xs)) (by (times_of n xs) (x == n) refl)
  where
    by : (Contains xs n → 0 < times n xs) → (b : Bool) → (x == n) ≡ b → 0 < cond b 1 0 + times n xs
    by rest true e = omega arith
    by rest false e = ⊎_elim
        (λ first. absurd (eqb-false x n e (first_is x n first)))
        (λ later. let some = rest later in omega (arith, some))
        (Contains-append_cases (x ∷ []) xs n h)

-- exactly the numbers less than this one
pub stands_below : (n k : ℕ) → k < n → Contains (numbers_below n) k
stands_below zero k lt = absurd (omega (arith, lt))
stands_below (suc n) k lt = ⊎_elim
    (λ (same : k ≡ n). subst (λ j. Contains (numbers_below n ++ n ∷ []) j) (sym same) (Contains-push (numbers_below n) n))
    (λ (less : k < n). Contains-append_left (numbers_below n) (n ∷ []) k (stands_below n k less))
    (eq-or-lt_of_le (omega (arith, lt)))

pub below_of : (n k : ℕ) → Contains (numbers_below n) k → k < n
below_of zero k h = absurd (nothing_in k h)
below_of (suc n) k h = ⊎_elim
    (λ earlier. let less = below_of n k earlier in omega (arith, less))
    (λ (same : n ≡ k). omega (arith, same))
    (Contains-push_cases (numbers_below n) n k h)

-- the verdicts of all methods, if each has as many tasks as it occurs among the numbers of methods
pub of_all_methods : (p : ProgramModel) (methods : List ℕ) (found : List FindingModel) → ((n : ℕ) → times n methods ≡ times n (numbers_below (length p.methods))) → AreOfMethods p methods found → AreExactly (IsWrong p) found
of_all_methods p methods found each of = record {
  right = λ f h. let r = of.right f h in
      let some = times_of r.0 methods r.1 in
      let same = each r.0 in
      (r.0, below_of (length p.methods) r.0 (of_times r.0 (numbers_below (length p.methods)) (omega (arith, some, same))), r.2);
  all = λ f w.
      let some = times_of w.0 (numbers_below (length p.methods)) (stands_below (length p.methods) w.0 w.1) in
      let same = each w.0 in
      of.all f (w.0, of_times w.0 methods (omega (arith, some, same)), w.2);
}

-- the verdict that a receipt names
pub put_of : (p : Program) (shelf : Shelf) (n : ℕ) (out : Result Receipt Verdict) (receipt : Receipt) → HasVerdict p shelf n out → out ≡ Ok receipt → IsPut p shelf n receipt
put_of p shelf n out receipt has is = subst (HasVerdict p shelf n) is has

-- the verdict that came back
pub back_of : (p : Program) (shelf : Shelf) (n : ℕ) (out : Result Receipt Verdict) (verdict : Verdict) → HasVerdict p shelf n out → out ≡ Err verdict
    → IsMethodVerdict (model_of p) n (map finding_model (findings_of verdict))
back_of p shelf n out verdict has is = subst (HasVerdict p shelf n) is has
