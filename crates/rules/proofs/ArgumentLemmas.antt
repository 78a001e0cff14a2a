-- Checks of arguments, one by one: the result stands for all of them.
use Rattle.std.proofs.Common.{◌≡◌, ℕ, ◌+◌, ◌<◌, ◌≤◌, Bool, true, false, not, ◌||◌, ◌==◌, List, [], ◌∷◌, ◌++◌, length, drop, slice_index_or, Option, None, Some, Ok, Err, if◌then◌else◌, refl, sym, ap, ◌∙◌, append_assoc, arith, zip, ◌⊎◌, inl, inr, min, ⊎_elim}
use Rattle.std.specs.BTreeSet.{BTreeSet, contains, IsEmpty, Updates}
use Rattle.std.specs.BTreeMap.{is_at}
use Rattle.std.specs.List.{list_any}
use Rattle.std.specs.Ordering.{nat_cmp}
use Rattle.std.proofs.lemmas.Bool.{cases_lt}
use Rattle.std.proofs.lemmas.List.{at_drop_all, at_drop_more, drop_all}
use Rattle.program.specs.Lists.{is_among}
use Rattle.program.specs.declared.call.Argument.{Argument}
use Rattle.program.specs.declared.statement.Mention.{Mention}
use Rattle.rules.specs.Checks.{AreIn, StandsFor, check_model}
use Rattle.rules.specs.Arguments.{after_claims, given_before}
use Rattle.rules.specs.Outcomes.{Check, Pair, after_checks, breach_at, refuse_if}
use Rattle.rules.specs.Repeats.{first_again, require_none_again}
use Rattle.rules.specs.declared.breach.Breach.{Breach}
use Rattle.rules.specs.declared.breach.Reason.TheVariants.{Twice}
use Rattle.rows.specs.declared.row.Leaf.{Leaf}
use Rattle.std.specs.Prelude.{Result, IsErrAnd}
use Rattle.rules.proofs.CallLemmas.{passed_on}
use Rattle.flow.proofs.EndpointLemmas.{same_test, at_same, was_not, was_there}

-- the first `done` arguments were looked at: the set has their variables, and none was given before
pub record Looked (set : BTreeSet ℕ) (arguments : List Argument) (done : ℕ) : Type 0 where
  pub same : (earlier : List ℕ) × AreIn earlier set × (first_again [] arguments ≡ first_again earlier (drop done arguments))

again_at : (arguments : List Argument) (done : ℕ) (d : Argument) (earlier : List ℕ) (b : Bool) → done < length arguments → is_among earlier (slice_index_or arguments done d).mention.variable.0 ≡ b
    → first_again earlier (drop done arguments)
    ≡ (if b then Some (slice_index_or arguments done d).mention else first_again ((slice_index_or arguments done d).mention.variable.0 ∷ earlier) (drop (done + 1) arguments))
again_at arguments done d earlier b lt is =
    let a = slice_index_or arguments done d in
    at_drop_more (first_again earlier) arguments done d lt ∙ ap (λ (t : Bool). if t then Some a.mention else first_again (a.mention.variable.0 ∷ earlier) (drop (done + 1) arguments)) is

-- the next one was given before
pub looked_again : (set : BTreeSet ℕ) (arguments : List Argument) (done : ℕ) (d : Argument) (added : Bool) → done < length arguments → added ≡ false → added ≡ not (contains nat_cmp set (slice_index_or arguments done d).mention.variable.0)
    → Looked set arguments done → Some (slice_index_or arguments done d).mention ≡ first_again [] arguments
looked_again set arguments done d added lt old is h =
    let a = slice_index_or arguments done d in
    sym (h.same.2 ∙ again_at arguments done d h.same.0 true lt (sym (h.same.1 a.mention.variable.0) ∙ was_there added _ old is))

-- the next one was not
pub looked_more : (set more : BTreeSet ℕ) (arguments : List Argument) (done : ℕ) (d : Argument) (added : Bool) → done < length arguments → added ≡ true → added ≡ not (contains nat_cmp set (slice_index_or arguments done d).mention.variable.0)
    → Updates nat_cmp set more (slice_index_or arguments done d).mention.variable.0 true → Looked set arguments done → Looked more arguments (done + 1)
looked_more set more arguments done d added lt fresh is updates h =
    let v = (slice_index_or arguments done d).mention.variable.0 in
    record {
      same = (
        v ∷ h.same.0,
        λ q. updates.0 q ∙ same_test (is_at (nat_cmp v) q) (v == q) _ (at_same v q) ∙ ap (λ b. (v == q) || b) (h.same.1 q),
        h.same.2 ∙ again_at arguments done d h.same.0 false lt (sym (h.same.1 v) ∙ was_not added _ fresh is),
      );
    }

-- all were looked at
pub looked_all : (set : BTreeSet ℕ) (arguments : List Argument) (done : ℕ) → length arguments ≤ done → Looked set arguments done → None ≡ first_again [] arguments
looked_all set arguments done le h = sym (h.same.2 ∙ at_drop_all (first_again h.same.0) arguments done le)

-- nothing is in an empty set
pub none_in : (set : BTreeSet ℕ) → IsEmpty set → AreIn [] set
none_in set empty = λ q. ap (list_any (is_at (nat_cmp q))) empty

-- no argument was looked at
pub looked_first : (set : BTreeSet ℕ) (arguments : List Argument) → IsEmpty set → Looked set arguments 0
looked_first set arguments empty = record { same = ([], none_in set empty, refl) }

one : (b : Bool) (x : Mention) (checks more : List Check) (again : Option Mention) (after : List Pair) → after_checks (checks ++ more) after ≡ after_checks (require_none_again again ∷ more) after
    → after_checks (refuse_if b (breach_at x.place (Twice x.variable)) ∷ (checks ++ more)) after ≡ after_checks (require_none_again (if b then Some x else again) ∷ more) after
one true x checks more again after h = refl
one false x checks more again after h = h

-- the finding is for the first argument that was given before
pub again_is : (earlier : List ℕ) (arguments : List Argument) (more : List Check) (after : List Pair) → after_checks (given_before earlier arguments ++ more) after ≡ after_checks (require_none_again (first_again earlier arguments) ∷ more) after
again_is earlier [] more after = refl
again_is earlier (a ∷ arguments) more after =
    let x = a.mention in
    one (is_among earlier x.variable.0) x (given_before (x.variable.0 ∷ earlier) arguments) more (first_again (x.variable.0 ∷ earlier) arguments) after (again_is (x.variable.0 ∷ earlier) arguments more after)

-- the result stands for the checks that no argument was given before
pub again_stands : (earlier : List ℕ) (arguments : List Argument) (again : Option Mention) (found : Result (Unit {0}) Breach) → again ≡ first_again earlier arguments → check_model found ≡ require_none_again again → StandsFor found (given_before earlier arguments)
again_stands earlier arguments again found is told =
    record { all = λ more after. again_is earlier arguments more after ∙ ap (λ a. after_checks (require_none_again a ∷ more) after) (sym is) ∙ ap (λ f. after_checks (f ∷ more) after) (sym told) }

-- of these checks, only those in `left` are still to be made
pub record Left (checks left : List Check) : Type 0 where
  pub all : (more : List Check) (after : List Pair) → after_checks (checks ++ more) after ≡ after_checks (left ++ more) after

-- no check was made
pub left_all : (checks : List Check) → Left checks checks
left_all checks = record { all = λ more after. refl }

left_behind : (checks before left rest : List Check) (found : Result (Unit {0}) Breach) → left ≡ before ++ rest → StandsFor found before → Left checks left
    → (more : List Check) (after : List Pair) → after_checks (checks ++ more) after ≡ after_checks (check_model found ∷ (rest ++ more)) after
left_behind checks before left rest found is stands h more after =
    h.all more after ∙ ap (λ l. after_checks (l ++ more) after) is ∙ ap (λ l. after_checks l after) (append_assoc before rest more) ∙ stands.all (rest ++ more) after

-- the first of the checks left passed
pub left_less : (checks before left rest : List Check) → left ≡ before ++ rest → StandsFor (Ok tt) before → Left checks left → Left checks rest
left_less checks before left rest is stands h = record { all = left_behind checks before left rest (Ok tt) is stands h }

-- the first of the checks left failed
pub left_found : (checks before left rest : List Check) (answer : Result (Unit {0}) Breach) (breach : Breach) → left ≡ before ++ rest → IsErrAnd answer (λ b. b ≡ breach) → StandsFor (Err breach) before → Left checks left
    → StandsFor answer checks
left_found checks before left rest answer breach is passed stands h = record {
  all = λ more after.
      left_behind checks before left rest (Err breach) is stands h more after
      ∙ sym (ap (λ f. after_checks (check_model f ∷ more) after) (passed_on answer breach passed));
}

-- no check is left
pub left_none : (checks left : List Check) → left ≡ [] → Left checks left → StandsFor (Ok tt) checks
left_none checks left is h = record { all = λ more after. h.all more after ∙ ap (λ l. after_checks (l ++ more) after) is }

-- one more argument: what it claims is gone
pub claimed_more : (row less : List Leaf) (arguments : List Argument) (done : ℕ) (d : Argument) → done < length arguments → less ≡ after_claims row (slice_index_or arguments done d ∷ []) → after_claims less (drop (done + 1) arguments) ≡ after_claims row (drop done arguments)
claimed_more row less arguments done d lt is = sym (at_drop_more (after_claims row) arguments done d lt ∙ ap (λ r. after_claims r (drop (done + 1) arguments)) (sym is))

-- two lists in pairs, from index i on
pub zip_more : {A B : Type 0} (xs : List A) (ys : List B) (i : ℕ) (d : A) (e : B) → i < length xs → i < length ys → zip (drop i xs) (drop i ys) ≡ (slice_index_or xs i d, slice_index_or ys i e) ∷ zip (drop (i + 1) xs) (drop (i + 1) ys)
zip_more xs ys i d e first second =
    at_drop_more (λ l. zip l (drop i ys)) xs i d first ∙ at_drop_more (λ l. zip (slice_index_or xs i d ∷ drop (i + 1) xs) l) ys i e second

pub zip_nil : {A B : Type 0} (xs : List A) (ys : List B) → ys ≡ [] → zip xs ys ≡ []
zip_nil [] ys none = refl
zip_nil (x ∷ xs) [] none = refl
zip_nil (x ∷ xs) (y ∷ ys) none = absurd (cc)

-- one of the lists is at its end
pub zip_none : {A B : Type 0} (xs : List A) (ys : List B) (i : ℕ) → (length xs ≤ i) ⊎ (length ys ≤ i) → zip (drop i xs) (drop i ys) ≡ []
zip_none xs ys i (inl le) = at_drop_all (λ l. zip l (drop i ys)) xs i le
zip_none xs ys i (inr le) = zip_nil (drop i xs) (drop i ys) (drop_all i ys le)

-- a number below the smaller of two is below both
pub below_both : (a b n : ℕ) → n < min a b → (n < a) × (n < b)
below_both a b n lt = (omega (arith, lt), omega (arith, lt))

pub past_one : (a b n : ℕ) → min a b ≤ n → (a ≤ n) ⊎ (b ≤ n)
past_one a b n le = ⊎_elim (λ more. inr (omega (arith, le, more))) (λ first. inl first) (cases_lt n a)
