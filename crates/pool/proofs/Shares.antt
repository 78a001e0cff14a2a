-- Each step keeps the rule of a deque.
use Rattle.std.proofs.Common.{◌≡◌, ◌≢◌, ◌==◌, ℕ, zero, suc, ◌+◌, ◌-◌, ◌<◌, ◌≤◌, List, [], ◌∷◌, ◌++◌, length, set, sym, refl, ap, ◌∙◌, subst, ⊎_elim, append_assoc, arith, cond, sum_by, All}
use Rattle.std.proofs.lemmas.List.Sums.{sum_by-cons, sum_by-append}
use Rattle.std.proofs.lemmas.List.Elements.{All-take, All-drop, All-head}
use lib.Seq.{take-append_seam, drop-append_seam}
use mathlib.Core.Option.{some, some-ne-none, some-injective}
use lib.ListN.{get_elem?}
use Rattle.crossbeam_deque.specs.Tasks.{Pushes, Takes, Finds, Forks, Merges}
use Rattle.crossbeam_deque.proofs.Lists.{at_set, at_snoc}
use Rattle.pool.specs.declared.held.Hand.{Hand}
use Rattle.pool.specs.declared.held.HeldTask.{HeldTask}
use Rattle.pool.specs.Rule.{hand, held_number, parts_of, copies, took, Fits, EachFits, Shares, IsPart}

module _ (f : Hand → ℕ) where
  -- the total after a change of one pass
  total_set : (views : List Hand) (port : ℕ) (v w : Hand) → get_elem? views port ≡ some v → sum_by f (set views port w) + f v ≡ sum_by f views + f w
  total_set [] port v w at = absurd (some-ne-none v (sym at))
  total_set (x ∷ xs) zero v w at = let e : f x ≡ f v = ap f (some-injective x v at) in omega (arith, sum_by-cons f x xs, sum_by-cons f w xs)
  total_set (x ∷ xs) (suc port) v w at = let h = total_set xs port v w at in omega (arith, sum_by-cons f x xs, sum_by-cons f x (set xs port w))

  one_below : (views : List Hand) (port : ℕ) (v : Hand) → get_elem? views port ≡ some v → f v ≤ sum_by f views
  one_below [] port v at = absurd (some-ne-none v (sym at))
  one_below (x ∷ xs) zero v at = let e : f x ≡ f v = ap f (some-injective x v at) in omega (arith, sum_by-cons f x xs)
  one_below (x ∷ xs) (suc port) v at = let h = one_below xs port v at in omega (arith, sum_by-cons f x xs)

  two_below : (views : List Hand) (i j : ℕ) (v w : Hand) → j ≢ i → get_elem? views i ≡ some v → get_elem? views j ≡ some w → f v + f w ≤ sum_by f views
  two_below [] i j v w apart at at' = absurd (some-ne-none v (sym at))
  two_below (x ∷ xs) zero zero v w apart at at' = absurd (apart refl)
  two_below (x ∷ xs) zero (suc j) v w apart at at' = let e : f x ≡ f v = ap f (some-injective x v at) in let h = one_below xs j w at' in omega (arith, sum_by-cons f x xs)
  two_below (x ∷ xs) (suc i) zero v w apart at at' = let e : f x ≡ f w = ap f (some-injective x w at') in let h = one_below xs i v at in omega (arith, sum_by-cons f x xs)
  two_below (x ∷ xs) (suc i) (suc j) v w apart at at' = let h = two_below xs i j v w (λ e. apart (ap suc e)) at at' in omega (arith, sum_by-cons f x xs)

  -- if no pass has a part, and a pass without parts counts nothing, the total is 0
  total_none : (views : List Hand) → sum_by parts_of views ≡ 0 → ((j : ℕ) (u : Hand) → get_elem? views j ≡ some u → u.parts ≡ 0 → f u ≡ 0) → sum_by f views ≡ 0
  total_none [] none idle = refl
  total_none (x ∷ xs) none idle =
      let e = sum_by-cons parts_of x xs in
      let here : f x ≡ 0 = idle 0 x refl (omega arith) in
      let rest : sum_by f xs ≡ 0 = total_none xs (omega arith) (λ j u at. idle (suc j) u at) in
      omega (arith, sum_by-cons f x xs)

-- if one pass has all parts, the total is its count
total_alone : (f : Hand → ℕ) (views : List Hand) (port : ℕ) (v : Hand) → get_elem? views port ≡ some v → sum_by parts_of views ≡ v.parts → f (hand 0 [] []) ≡ 0
    → ((j : ℕ) (u : Hand) → get_elem? views j ≡ some u → u.parts ≡ 0 → f u ≡ 0) → sum_by f views ≡ f v
total_alone f views port v at all zero_idle idle_zero =
    let w = hand 0 [] [] in
    let a = total_set f views port v w at in
    let b = total_set parts_of views port v w at in
    let none : sum_by f (set views port w) ≡ 0 = total_none f (set views port w) (omega arith)
    (λ j u e free. ⊎_elim (λ (x : (j ≡ port) × (w ≡ u)). sym (ap f x.1) ∙ zero_idle) (λ (x : (j ≢ port) × (get_elem? views j ≡ some u)). idle_zero j u x.1 free) (at_set views port j w u e)) in
    omega arith

-- the views after a change of one pass fit, if it fits and the others do
fits_set : (put : List HeldTask) (views : List Hand) (port : ℕ) (w : Hand) → Fits put w → ((j : ℕ) (u : Hand) → j ≢ port → get_elem? views j ≡ some u → Fits put u) → EachFits put (set views port w)
fits_set put views port w mine others j u e =
    ⊎_elim (λ (x : (j ≡ port) × (w ≡ u)). subst (Fits put) x.1 mine) (λ (x : (j ≢ port) × (get_elem? views j ≡ some u)). others j u x.0 x.1) (at_set views port j w u e)

pub begins : Shares [] (hand 1024 [] [] ∷ [])
begins = ([], [], refl, refl, (λ n. refl), fits_set [] (hand 1024 [] [] ∷ []) 0 (hand 1024 [] []) ((λ none. refl), λ some. refl) last)
  where
    last : (j : ℕ) (u : Hand) → j ≢ 0 → get_elem? (hand 1024 [] [] ∷ []) j ≡ some u → Fits [] u
    last zero u other at = absurd (other refl)
    last (suc j) u other at = absurd (some-ne-none u (sym at))

pub pushes : (port : ℕ) (v : Hand) (xs : List HeldTask) → v.parts ≡ 1024 → Pushes Shares port v xs (λ w. w ≡ hand v.parts (v.put ++ xs) v.taken)
pushes port v xs full items views h at =
    let w = hand v.parts (v.put ++ xs) v.taken in
    let mine = h.5 port v at in (
      w,
      (
        h.0 ++ xs,
        h.1,
        ap (λ l. l ++ xs) h.2 ∙ append_assoc h.1 items xs,
        (let s = total_set parts_of views port v w at in let p = h.3 in omega arith),
        (λ n. let s = total_set (took n) views port v w at in let p = h.4 n in omega arith),
        fits_set (h.0 ++ xs) views port w
            ((λ none. absurd (omega arith)), λ some_part. ap (λ l. l ++ xs) (mine.1 (omega arith)))
            (λ j u other e. let s = two_below parts_of views port j v u other at e in let p = h.3 in ((h.5 j u e).0, λ some_part. absurd (omega arith))),
      ),
      refl,
    )

pub copies-append : (n : ℕ) (xs ys : List HeldTask) → copies n (xs ++ ys) ≡ copies n xs + copies n ys
copies-append n xs ys = sum_by-append (λ x. cond (held_number x == n) 1 0) xs ys

pub takes : (port : ℕ) (v : Hand) → 0 < v.parts → Takes Shares port v 1 (λ xs w. (w ≡ hand v.parts v.put (v.taken ++ xs)) × IsPart v.put xs)
takes port v some_part xs items views _ _ h at =
    let w = hand v.parts v.put (v.taken ++ xs) in
    let mine = h.5 port v at in
    let split : h.0 ≡ (h.1 ++ xs) ++ items = h.2 ∙ sym (append_assoc h.1 xs items) in (
      w,
      (
        h.0,
        h.1 ++ xs,
        split,
        (let s = total_set parts_of views port v w at in let p = h.3 in omega arith),
        (λ n. let s = total_set (took n) views port v w at in let p = h.4 n in omega (arith, copies-append n v.taken xs, copies-append n h.1 xs)),
        fits_set h.0 views port w ((λ none. absurd (omega arith)), mine.1) (λ j u other e. h.5 j u e),
      ),
      (refl, (h.1, items, mine.1 some_part ∙ split)),
    )

pub forks : (port : ℕ) (v : Hand) → 1 < v.parts → Forks Shares port v (hand (v.parts - 1) v.put v.taken) (hand 1 v.put [])
forks port v more items views h at =
    let l = hand (v.parts - 1) v.put v.taken in
    let r = hand 1 v.put [] in
    let vs = set views port l in
    let mine = h.5 port v at in
    let known : v.put ≡ h.0 = mine.1 (omega arith) in
    let old : EachFits h.0 vs = fits_set h.0 views port l ((λ none. absurd (omega arith)), λ _. known) (λ j u other e. h.5 j u e) in (
      h.0,
      h.1,
      h.2,
      (let s = total_set parts_of views port v l at in let p = h.3 in omega (arith, sum_by-append parts_of vs (r ∷ []))),
      (λ n. let s = total_set (took n) views port v l at in let p = h.4 n in omega (arith, sum_by-append (took n) vs (r ∷ []))),
      (λ j u e. ⊎_elim (λ (x : get_elem? vs j ≡ some u). old j u x) (λ (is : r ≡ u). subst (Fits h.0) is ((λ none. refl), λ _. known)) (at_snoc vs r u j e)),
    )

pub merges : (port : ℕ) (v : Hand) (other : ℕ) (u : Hand) → 0 < v.parts → Merges Shares port v other u (hand (v.parts + u.parts) v.put (v.taken ++ u.taken)) (hand 0 [] [])
merges port v other u some_part items views h at apart at' =
    let b = hand (v.parts + u.parts) v.put (v.taken ++ u.taken) in
    let none = hand 0 [] [] in
    let vs = set views port b in
    let mine = h.5 port v at in
    let known : v.put ≡ h.0 = mine.1 some_part in
    let now : EachFits h.0 vs = fits_set h.0 views port b ((λ no. absurd (omega arith)), λ _. known) (λ j x other' e. h.5 j x e) in (
      h.0,
      h.1,
      h.2,
      (let s = total_set parts_of views port v b at in let t = total_set parts_of vs other u none at' in let p = h.3 in omega arith),
      (λ n. let s = total_set (took n) views port v b at in let t = total_set (took n) vs other u none at' in let p = h.4 n in omega (arith, copies-append n v.taken u.taken)),
      fits_set h.0 vs other none ((λ _. refl), λ no. absurd (omega arith)) (λ j x other' e. now j x e),
    )

-- if the deque is empty, a pass with all parts has taken all tasks that were put
pub ends : (port : ℕ) (v : Hand) → Finds Shares port v (v.parts ≡ 1024 → (n : ℕ) → copies n v.put ≡ copies n v.taken)
ends port v views h at full n =
    let p = h.3 in
    let known : v.put ≡ h.0 = (h.5 port v at).1 (omega arith) in
    let gone : copies n v.put ≡ copies n h.1 + copies n [] = ap (copies n) (known ∙ h.2) ∙ copies-append n h.1 [] in
    let all = total_alone (took n) views port v at (omega arith) refl (λ j u e none. ap (copies n) ((h.5 j u e).0 none)) in
    let q = h.4 n in
    omega arith

module _ {X : Type 0} (P : X → Type 0) where
  left : (xs ys : List X) → All P (xs ++ ys) → All P xs
  left xs ys h = subst (All P) (take-append_seam xs ys) (All-take P (length xs) (xs ++ ys) h)

  right : (xs ys : List X) → All P (xs ++ ys) → All P ys
  right xs ys h = subst (All P) (drop-append_seam xs ys) (All-drop P (length xs) (xs ++ ys) h)

-- what holds of each task that was put holds of one that was taken
pub taken_one : (P : HeldTask → Type 0) (put : List HeldTask) (x : HeldTask) → IsPart put (x ∷ []) → All P put → P x
taken_one P put x part all =
    let whole : All P ((part.0 ++ x ∷ []) ++ part.1) = subst (All P) part.2 all in
    All-head P x [] (right P part.0 (x ∷ []) (left P (part.0 ++ x ∷ []) part.1 whole))
