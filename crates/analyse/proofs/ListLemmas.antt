-- Lists without duplicates.
use Rattle.std.proofs.Common.{◌≡◌, ℕ, ◌<◌, ◌≤◌, ◌⊎◌, inl, inr, List, [], ◌∷◌, ◌++◌, length, map, get_or, Contains, sym, ap, subst, ◌∙◌, arith, length-append}
use Rattle.std.proofs.lemmas.List.{get_or-map, length-map}
use Rattle.std.proofs.lemmas.List.Elements.{Contains-append_left, Contains-append_right, Contains-push, Contains-push_cases, Contains-append_cases}
use Rattle.analyse.specs.Reach.{Differ}

module _ {X : Type 0} where
  pub none_in : (x : X) → Contains [] x → ⊥
  none_in x h = absurd (omega (arith, h.1))

  pub has_here : (x : X) (xs : List X) → Contains (x ∷ xs) x
  has_here x xs = Contains-append_left (x ∷ []) xs x (Contains-push [] x)

  pub has_later : (y : X) (xs : List X) (x : X) → Contains xs x → Contains (y ∷ xs) x
  has_later y xs x h = Contains-append_right (y ∷ []) xs x h

  pub has_cases : (y : X) (xs : List X) (x : X) → Contains (y ∷ xs) x → (y ≡ x) ⊎ Contains xs x
  has_cases y xs x h = elim (Contains-append_cases (y ∷ []) xs x h) [ inl k ↦ inl (one k) | inr k ↦ inr k ]
    where
      one : Contains (y ∷ []) x → y ≡ x
      one k = elim (Contains-push_cases [] y x k) [ inl n ↦ absurd (none_in x n) | inr e ↦ e ]

  pub has_mapped : {Y : Type 0} (f : X → Y) (xs : List X) (i : ℕ) (x : X) → i < length xs → get_or xs i x ≡ x → Contains (map f xs) (f x)
  has_mapped f xs i x below is = let same = length-map xs f in (i, omega arith, get_or-map f xs i x (f x) below ∙ ap f is)

  pub only_one : (y x : X) → Contains (y ∷ []) x → y ≡ x
  only_one y x k = elim (Contains-push_cases [] y x k) [ inl n ↦ absurd (none_in x n) | inr e ↦ e ]

  pub differ_push : (xs : List X) (x : X) → Differ xs → (Contains xs x → ⊥) → Differ (xs ++ x ∷ [])
  differ_push [] x d n = (none_in x, tt)
  differ_push (y ∷ ys) x d n =
      (λ h. elim (Contains-push_cases ys x y h) [ inl k ↦ d.0 k | inr e ↦ n (subst (λ z. Contains (z ∷ ys) x) e (has_here x ys)) ], differ_push ys x d.1 (λ h. n (has_later y ys x h)))

  -- a list without one occurrence of x
  pub record Without (xs : List X) (x : X) : Type 0 where
    pub front : List X
    pub back : List X
    pub whole : xs ≡ front ++ x ∷ back

  pub without : (xs : List X) (x : X) → Contains xs x → Without xs x
  without [] x h = absurd (none_in x h)
  without (y ∷ ys) x h = elim (has_cases y ys x h) [
    | inl e ↦ record { front = []; back = ys; whole = ap (λ z. z ∷ ys) e }
    | inr k ↦ let w = without ys x k in record { front = y ∷ w.front; back = w.back; whole = ap (λ zs. y ∷ zs) w.whole }
  ]

  -- a list without duplicates is no longer than a list that contains its elements
  pub no_more : (xs ys : List X) → Differ xs → ((x : X) → Contains xs x → Contains ys x) → length xs ≤ length ys
  no_more [] ys d h = omega arith
  no_more (x ∷ xs) ys d h =
      let w = without ys x (h x (has_here x xs)) in
      let rest = no_more xs (w.front ++ w.back) d.1 (λ z k. elim (Contains-append_cases w.front (x ∷ w.back) z (subst (λ l. Contains l z) w.whole (h z (has_later x xs z k)))) [
        | inl a ↦ Contains-append_left w.front w.back z a
        | inr a ↦ (elim (has_cases x w.back z a) [ inl e ↦ absurd (d.0 (subst (Contains xs) (sym e) k)) | inr b ↦ Contains-append_right w.front w.back z b ])
      ]) in
      let all : length ys ≡ length (w.front ++ x ∷ w.back) = ap length w.whole in
      omega (arith, all, rest, length-append w.front (x ∷ w.back), length-append w.front w.back)
