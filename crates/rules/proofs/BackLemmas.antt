-- Lent endpoints, variable by variable.
use Rattle.std.proofs.Common.{◌≡◌, ℕ, suc, ◌+◌, ◌-◌, ◌<◌, ◌≤◌, List, [], ◌∷◌, length, map, ap, sym, ◌∙◌, arith, Bool, true, Some}
use Rattle.std.specs.Prelude.{Result}
use Rattle.std.specs.List.{range_with_len}
use Rattle.source.specs.declared.place.Place.{Place}
use Rattle.program.specs.Methods.{MethodModel}
use Rattle.program.specs.Programs.{ProgramModel}
use Rattle.rules.specs.Checks.{StandsFor, check_model}
use Rattle.rules.specs.Outcomes.{Check, after_checks, breach_at, refuse_if}
use Rattle.rules.specs.RuleTable.{is_not_back}
use Rattle.rules.specs.declared.breach.Breach.{Breach}
use Rattle.rules.specs.declared.breach.Reason.TheVariants.{NotBack}
use Rattle.rows.specs.declared.row.Leaf.{Leaf}

module _ (p : ProgramModel) (m : MethodModel) (row : List Leaf) (place : Place) where
  abbrev pub back_check : ℕ → Check
  back_check v = refuse_if (is_not_back p m row v) (breach_at place (NotBack record { 0 = v }))

  -- the checks of the variables from this one on
  abbrev pub back_from : ℕ → List Check
  back_from v = map back_check (range_with_len v (length m.variables - v))

  pub back_more : (v : ℕ) → v < length m.variables → back_from v ≡ back_check v ∷ back_from (v + 1)
  back_more v lt =
      let left : length m.variables - v ≡ suc (length m.variables - (v + 1)) = omega (arith, lt) in
      ap (λ n. map back_check (range_with_len v n)) left

  pub back_none : (v : ℕ) → length m.variables ≤ v → back_from v ≡ []
  back_none v le =
      let left : length m.variables - v ≡ 0 = omega (arith, le) in
      ap (λ n. map back_check (range_with_len v n)) left

  -- the finding for an endpoint that is not back stands for its check
  pub told_back : (v : ℕ) (found : Result (Unit {0}) Breach) → is_not_back p m row v ≡ true → check_model found ≡ Some (breach_at place (NotBack record { 0 = v })) → StandsFor found (back_check v ∷ [])
  told_back v found out told = record {
    all = λ more after. ap (λ (b : Bool). after_checks (refuse_if b (breach_at place (NotBack record { 0 = v })) ∷ more) after) out ∙ ap (λ f. after_checks (f ∷ more) after) (sym told);
  }
