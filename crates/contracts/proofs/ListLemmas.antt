-- The elements of a list, of a filtered list and of a mapped one.
use Rattle.std.proofs.Common.{◌≡◌, zero, suc, List, [], ◌∷◌, map, true, Bool, sym, refl, ap, ◌∙◌, subst, arith, ⊎_elim}
use Rattle.std.specs.Prelude.{Contains, filter}
use Rattle.std.proofs.lemmas.Bool.{true≢false, cases_Bool, cond-true, cond-false}
use Rattle.contracts.proofs.ArcLemmas.{none_in}

pub contains_head : {A : Type 0} (x : A) (xs : List A) → Contains (x ∷ xs) x
contains_head x xs = (0, omega arith, refl)

pub contains_tail : {A : Type 0} (y x : A) (xs : List A) → Contains xs x → Contains (y ∷ xs) x
contains_tail y x xs c = let lt = c.1 in (suc c.0, omega (arith, lt), c.2)

pub contains_either : {A : Type 0} (P : Type 0) (y x : A) (xs : List A) → Contains (y ∷ xs) x → (y ≡ x → P) → (Contains xs x → P) → P
contains_either P y x xs (zero, lt, e) first rest = first e
contains_either P y x xs (suc k, lt, e) first rest = rest (k, omega (arith, lt), e)

-- what a filter keeps is in the list and passes
pub kept_in : {A : Type 0} (p : A → Bool) (xs : List A) (x : A) → Contains (filter p xs) x → Contains xs x × (p x ≡ true)
kept_in p [] x c = absurd (none_in x c)
kept_in p (y ∷ ys) x c = ⊎_elim
    (λ keeps. contains_either (Contains (y ∷ ys) x × (p x ≡ true)) y x (filter p ys) (subst (λ l. Contains l x) (cond-true (p y) (y ∷ filter p ys) (filter p ys) keeps) c)
    (λ same. (subst (Contains (y ∷ ys)) same (contains_head y ys), sym (ap p same) ∙ keeps))
    (λ later. let r = kept_in p ys x later in (contains_tail y x ys r.0, r.1)))
    (λ drops. let r = kept_in p ys x (subst (λ l. Contains l x) (cond-false (p y) (y ∷ filter p ys) (filter p ys) drops) c) in (contains_tail y x ys r.0, r.1))
    (cases_Bool (p y))

pub in_kept : {A : Type 0} (p : A → Bool) (xs : List A) (x : A) → Contains xs x → p x ≡ true → Contains (filter p xs) x
in_kept p [] x c passes = absurd (none_in x c)
in_kept p (y ∷ ys) x c passes = ⊎_elim
    (λ keeps. subst (λ l. Contains l x) (sym (cond-true (p y) (y ∷ filter p ys) (filter p ys) keeps))
    (contains_either (Contains (y ∷ filter p ys) x) y x ys c
    (λ same. subst (Contains (y ∷ filter p ys)) same (contains_head y (filter p ys)))
    (λ later. contains_tail y x (filter p ys) (in_kept p ys x later passes))))
    (λ drops. subst (λ l. Contains l x) (sym (cond-false (p y) (y ∷ filter p ys) (filter p ys) drops))
    (contains_either (Contains (filter p ys) x) y x ys c
    (λ same. absurd (true≢false (sym passes ∙ sym (ap p same) ∙ drops)))
    (λ later. in_kept p ys x later passes)))
    (cases_Bool (p y))

-- each element of a mapped list comes from one of the list
pub made_from : {A B : Type 0} (f : A → B) (xs : List A) (y : B) → Contains (map f xs) y → (x : A) × Contains xs x × (f x ≡ y)
made_from {A} {B} f [] y c = absurd (none_in y c)
made_from {A} {B} f (x ∷ xs) y c = contains_either ((z : A) × Contains (x ∷ xs) z × (f z ≡ y)) (f x) y (map f xs) c
    (λ same. (x, contains_head x xs, same))
    (λ later. let r = made_from f xs y later in (r.0, contains_tail x r.0 xs r.1, r.2))
