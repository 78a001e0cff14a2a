-- Two reports of the same findings are the same.
use Rattle.std.proofs.Common.{◌≡◌, ℕ, zero, suc, ◌<◌, List, [], ◌∷◌, length, get_or, refl, sym, ap, ◌∙◌, subst, arith, ⊎_elim, inl, inr}
use Rattle.std.specs.Prelude.{Contains, ◌⊎◌}
use Rattle.std.specs.List.{AllByRecursion}
use Rattle.std.specs.List.Sorted.{IsStrictlySortedBy}
use Rattle.std.specs.Ordering.{ordering_reverse}
use Rattle.std.specs.declared.cmp.Ordering.TheVariants.{Less, Greater}
use Rattle.source.specs.Findings.{FindingModel}
use Rattle.contracts.specs.Conditions.{AreExactly}
use Rattle.reports.specs.Orders.{report_cmp}
use Rattle.singcheck.specs.Reports.{IsReport, report_bytes}
use Rattle.reports.proofs.OrderLemmas.{report_total}
use Rattle.sound.proofs.Quiet.{contains_first}

-- the two lists have the same findings
pub record AreAlike (xs ys : List FindingModel) : Type 0 where
  pub from : (f : FindingModel) → Contains xs f → Contains ys f
  pub back : (f : FindingModel) → Contains ys f → Contains xs f

pub behind_front : {X : Type 0} (x y : X) (xs : List X) → Contains xs y → Contains (x ∷ xs) y
behind_front x y xs c = let below = c.1 in (suc c.0, omega arith, c.2)

pub front_or_behind : {X : Type 0} (x y : X) (xs : List X) → Contains (x ∷ xs) y → (x ≡ y) ⊎ Contains xs y
front_or_behind {X} x y xs c = go c.0 c.1 c.2
  where
    go : (k : ℕ) → k < length (x ∷ xs) → get_or (x ∷ xs) k y ≡ y → (x ≡ y) ⊎ Contains xs y
    go zero lt e = inl e
    go (suc k) lt e = inr (k, omega (arith, lt), e)

pub nothing_in : {X : Type 0} (x : X) → Contains [] x → ⊥
nothing_in x c = let below = c.1 in omega arith

each_in : (P : FindingModel → Type 0) (xs : List FindingModel) (y : FindingModel) → AllByRecursion P xs → Contains xs y → P y
each_in P [] y all c = absurd (nothing_in y c)
each_in P (x ∷ xs) y all c = ⊎_elim (λ e. subst P e all.0) (λ behind. each_in P xs y all.1 behind) (front_or_behind x y xs c)

never_below : (x y : FindingModel) → report_cmp x y ≡ Less → report_cmp y x ≡ Less → ⊥
never_below x y e f =
    let back : report_cmp x y ≡ ordering_reverse (report_cmp y x) = report_total.antisymm x y in
    let turned : Less ≡ Greater = sym e ∙ back ∙ ap ordering_reverse f in
    cc

never_itself : (x : FindingModel) → report_cmp x x ≡ Less → ⊥
never_itself x e = never_below x x e e

-- strictly sorted lists of the same findings are the same
pub one_order : (xs ys : List FindingModel) → IsStrictlySortedBy report_cmp xs → IsStrictlySortedBy report_cmp ys → AreAlike xs ys → xs ≡ ys
unfolding IsStrictlySortedBy
one_order [] [] up down alike = refl
one_order [] (y ∷ ys) up down alike = absurd (nothing_in y (alike.back y (contains_first y ys)))
one_order (x ∷ xs) [] up down alike = absurd (nothing_in x (alike.from x (contains_first x xs)))
one_order (x ∷ xs) (y ∷ ys) up down alike =
    let first : x ≡ y = ⊎_elim
    (λ e. sym e)
    (λ later. ⊎_elim
    (λ e. e)
    (λ also. absurd (never_below y x (each_in (λ z. report_cmp y z ≡ Less) ys x down.0 later) (each_in (λ z. report_cmp x z ≡ Less) xs y up.0 also)))
    (front_or_behind x y xs (alike.back y (contains_first y ys))))
    (front_or_behind y x ys (alike.from x (contains_first x xs))) in
    let rest : AreAlike xs ys = record {
      from = λ f c. ⊎_elim
          (λ e. absurd (never_itself x (subst (λ z. report_cmp x z ≡ Less) (sym (first ∙ e)) (each_in (λ z. report_cmp x z ≡ Less) xs f up.0 c))))
          (λ behind. behind)
          (front_or_behind y f ys (alike.from f (behind_front x f xs c)));
      back = λ f c. ⊎_elim
          (λ e. absurd (never_itself y (subst (λ z. report_cmp y z ≡ Less) (sym (sym first ∙ e)) (each_in (λ z. report_cmp y z ≡ Less) ys f down.0 c))))
          (λ behind. behind)
          (front_or_behind x f xs (alike.back f (behind_front y f ys c)));
    } in
    ap (λ z. z ∷ xs) first ∙ ap (λ l. y ∷ l) (one_order xs ys up.1 down.1 rest)

-- so their reports are the same
pub one_report : (xs ys : List FindingModel) (a b : List ℕ) → AreAlike xs ys → IsReport xs a → IsReport ys b → a ≡ b
one_report xs ys a b alike one other =
    let listed : one.listed ≡ other.listed = one_order one.listed other.listed one.ordered other.ordered (record {
      from = λ f c. other.same.all f (alike.from f (one.same.right f c));
      back = λ f c. one.same.all f (alike.back f (other.same.right f c));
    }) in
    one.is ∙ ap report_bytes listed ∙ sym other.is

-- two lists of exactly the findings with a property have the same findings
pub alike_exactly : (P : FindingModel → Type 0) (xs ys : List FindingModel) → AreExactly P xs → AreExactly P ys → AreAlike xs ys
alike_exactly P xs ys one other = record {
  from = λ f c. other.all f (one.right f c);
  back = λ f c. one.all f (other.right f c);
}

pub alike_same : (xs ys : List FindingModel) → xs ≡ ys → AreAlike xs ys
alike_same xs ys e = record {
  from = λ f c. subst (λ l. Contains l f) e c;
  back = λ f c. subst (λ l. Contains l f) (sym e) c;
}
