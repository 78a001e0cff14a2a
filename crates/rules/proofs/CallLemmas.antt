-- Checks in sequence, and what their results stand for. A check that passes returns `Ok`, and `?` passes a breach on.
use Rattle.std.proofs.Common.{◌≡◌, Bool, true, false, List, [], ◌∷◌, ◌++◌, None, Ok, Err, sym, ap, ◌∙◌, append-nil, append_assoc}
use Rattle.std.specs.Prelude.{Result, IsErrAnd}
use Rattle.rules.specs.Checks.{StandsFor, check_model}
use Rattle.rules.specs.Onwards.{onward_model, onward_of}
use Rattle.rules.specs.Outcomes.{Check, Pair, Fails, after_checks, refuse_if}
use Rattle.rules.specs.declared.breach.Breach.{Breach}
use Rattle.rules.specs.declared.onward.Onward.{Onward}
use Rattle.rows.specs.declared.row.Leaf.{Leaf}

-- a check returns the breach of another
pub passed_on : (answer : Result (Unit {0}) Breach) (breach : Breach) → IsErrAnd answer (λ b. b ≡ breach) → answer ≡ Err breach
passed_on (Ok x) breach is = absurd is
passed_on (Err b) breach is = ap (λ e. Err e) is

-- equal checks
pub of_checks : {answer : Result (Unit {0}) Breach} {checks others : List Check} → checks ≡ others → StandsFor answer checks → StandsFor answer others
of_checks is stands = record { all = λ more after. ap (λ l. after_checks (l ++ more) after) (sym is) ∙ stands.all more after }

-- a rule returns the breach of a check
pub told_on : (answer : Result Onward Breach) (breach : Breach) (row : List Leaf) → IsErrAnd answer (λ b. b ≡ breach) → onward_model (onward_of answer) row ≡ Fails breach
told_on (Ok x) breach row is = absurd is
told_on (Err b) breach row is = ap (λ e. Fails e) is

-- nothing follows these checks
pub alone : (checks : List Check) (answer : Result (Unit {0}) Breach) (after : List Pair) → StandsFor answer checks → after_checks (check_model answer ∷ []) after ≡ after_checks checks after
alone checks answer after stands = sym (ap (λ l. after_checks l after) (sym (append-nil checks)) ∙ stands.all [] after)

-- a check that passed, before others
pub behind_one : (check : Check) (checks : List Check) (after : List Pair) → None ≡ check → after_checks checks after ≡ after_checks (check ∷ checks) after
behind_one check checks after is = ap (λ c. after_checks (c ∷ checks) after) is

-- two lists of checks; the first passed
pub both_stand : (checks behind : List Check) (answer : Result (Unit {0}) Breach) → StandsFor (Ok tt) checks → StandsFor answer behind → StandsFor answer (checks ++ behind)
both_stand checks behind answer stands more_stands = record {
  all = λ more after.
      ap (λ l. after_checks l after) (append_assoc checks behind more) ∙ stands.all (behind ++ more) after ∙ more_stands.all more after;
}

-- the same, if nothing follows
pub second_of : (checks behind : List Check) (answer : Result (Unit {0}) Breach) (after : List Pair) → StandsFor (Ok tt) checks → StandsFor answer behind
    → after_checks (check_model answer ∷ []) after ≡ after_checks (checks ++ behind) after
second_of checks behind answer after stands more_stands =
    alone (checks ++ behind) answer after (both_stand checks behind answer stands more_stands)

-- the first failed, whatever follows
pub first_stands : (checks behind : List Check) (answer : Result (Unit {0}) Breach) (breach : Breach) → IsErrAnd answer (λ b. b ≡ breach) → StandsFor (Err breach) checks → StandsFor answer (checks ++ behind)
first_stands checks behind answer breach passed stands = record {
  all = λ more after.
      ap (λ l. after_checks l after) (append_assoc checks behind more) ∙ stands.all (behind ++ more) after
      ∙ sym (ap (λ f. after_checks (check_model f ∷ more) after) (passed_on answer breach passed));
}

-- a check that passes, before others
pub passes : (fails : Bool) (told : Breach) (checks : List Check) (answer : Result (Unit {0}) Breach) → fails ≡ false → StandsFor answer checks → StandsFor answer (refuse_if fails told ∷ checks)
passes fails told checks answer well stands = record {
  all = λ more after. ap (λ b. after_checks (refuse_if b told ∷ (checks ++ more)) after) well ∙ stands.all more after;
}

-- a check that fails, before others
pub refuses : (fails : Bool) (told : Breach) (checks : List Check) (breach : Breach) → fails ≡ true → breach ≡ told → StandsFor (Err breach) (refuse_if fails told ∷ checks)
refuses fails told checks breach failed is = record {
  all = λ more after. ap (λ b. after_checks (refuse_if b told ∷ (checks ++ more)) after) failed ∙ ap (λ f. Fails f) (sym is);
}
