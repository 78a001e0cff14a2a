-- Two lists whose items correspond by index.
use Rattle.std.proofs.Common.{◌≡◌, ℕ, zero, suc, List, [], ◌∷◌, ◌++◌, length, Some, None, inl, inr, slice_get, Contains, refl, ap, subst}
use Rattle.std.specs.List.{AllZip}
use Rattle.analyse.proofs.ListLemmas.{has_cases, none_in}

module _ {A B : Type 0} where
  pub zip_weaker : (R S : A → B → Type 0) → ((x : A) (y : B) → R x y → S x y) → (xs : List A) (ys : List B) → AllZip R xs ys → AllZip S xs ys
  zip_weaker R S f [] [] h = tt
  zip_weaker R S f [] (y ∷ ys) h = absurd h
  zip_weaker R S f (x ∷ xs) [] h = absurd h
  zip_weaker R S f (x ∷ xs) (y ∷ ys) h = (f x y h.0, zip_weaker R S f xs ys h.1)

  module _ (R : A → B → Type 0) where
    pub zip_push : (xs : List A) (ys : List B) (x : A) (y : B) → AllZip R xs ys → R x y → AllZip R (xs ++ x ∷ []) (ys ++ y ∷ [])
    zip_push [] [] x y h r = (r, tt)
    zip_push [] (b ∷ ys) x y h r = absurd h
    zip_push (a ∷ xs) [] x y h r = absurd h
    zip_push (a ∷ xs) (b ∷ ys) x y h r = (h.0, zip_push xs ys x y h.1 r)

    pub zip_long : (xs : List A) (ys : List B) → AllZip R xs ys → length ys ≡ length xs
    zip_long [] [] h = refl
    zip_long [] (y ∷ ys) h = absurd h
    zip_long (x ∷ xs) [] h = absurd h
    zip_long (x ∷ xs) (y ∷ ys) h = ap suc (zip_long xs ys h.1)

    -- the item that corresponds to the one at an index
    pub zip_at : (xs : List A) (ys : List B) (n : ℕ) (x : A) → AllZip R xs ys → slice_get xs n ≡ Some x → (y : B) × (slice_get ys n ≡ Some y) × R x y
    zip_at [] [] n x h e = cc
    zip_at [] (b ∷ ys) n x h e = absurd h
    zip_at (a ∷ xs) [] n x h e = absurd h
    zip_at (a ∷ xs) (b ∷ ys) zero x h e = let same : a ≡ x = cc in (b, refl, subst (λ z. R z b) same h.0)
    zip_at (a ∷ xs) (b ∷ ys) (suc n) x h e = zip_at xs ys n x h.1 e

    -- the other list ends at the same index
    pub zip_past : (xs : List A) (ys : List B) (n : ℕ) → AllZip R xs ys → None ≡ slice_get xs n → None ≡ slice_get ys n
    zip_past [] [] n h e = refl
    zip_past [] (b ∷ ys) n h e = absurd h
    zip_past (a ∷ xs) [] n h e = absurd h
    zip_past (a ∷ xs) (b ∷ ys) zero h e = cc
    zip_past (a ∷ xs) (b ∷ ys) (suc n) h e = zip_past xs ys n h.1 e

    -- each item has one that corresponds
    pub zip_has : (xs : List A) (ys : List B) (y : B) → AllZip R xs ys → Contains ys y → (x : A) × R x y
    zip_has [] [] y h k = absurd (none_in y k)
    zip_has [] (b ∷ ys) y h k = absurd h
    zip_has (a ∷ xs) [] y h k = absurd h
    zip_has (a ∷ xs) (b ∷ ys) y h k = elim (has_cases b ys y k) [ inl e ↦ (a, subst (R a) e h.0) | inr later ↦ zip_has xs ys y h.1 later ]
