-- Which elements of a list a loop picks.
use Rattle.std.proofs.Common.{◌≡◌, ◌≤◌, ◌<◌, ◌+◌, ℕ, Bool, true, false, List, [], ◌∷◌, ◌++◌, ◌⊎◌, inl, inr, length, take, get_or, filter, refl, sym, ap, subst, ◌∙◌, cond, arith}
use Rattle.std.specs.List.{All, Contains}
use Rattle.std.proofs.lemmas.List.{take_all, take_more}
use Rattle.std.proofs.lemmas.List.Elements.{All-nil, All-cons, All-contains, Contains-append_left, Contains-append_right, Contains-append_cases, Contains-push_cases}

-- those for which P holds, in their order
abbrev Picks : {X : Type 0} → (X → Type 0) → List X → List X → Type 0
Picks P [] ys = ys ≡ []
Picks {X} P (x ∷ xs) ys = (P x × ((zs : List X) × (ys ≡ x ∷ zs) × Picks P xs zs)) ⊎ ((P x → ⊥) × Picks P xs ys)

picks_one : {X : Type 0} (P : X → Type 0) (xs ys : List X) (x : X) → Picks P xs ys → P x → Picks P (xs ++ x ∷ []) (ys ++ x ∷ [])
picks_one P [] ys x h p = inl (p, ([], ap (λ zs. zs ++ x ∷ []) h, refl))
picks_one P (z ∷ xs) ys x (inl h) p = inl (h.0, (h.1.0 ++ x ∷ [], ap (λ zs. zs ++ x ∷ []) h.1.1, picks_one P xs h.1.0 x h.1.2 p))
picks_one P (z ∷ xs) ys x (inr h) p = inr (h.0, picks_one P xs ys x h.1 p)

picks_none : {X : Type 0} (P : X → Type 0) (xs ys : List X) (x : X) → Picks P xs ys → (P x → ⊥) → Picks P (xs ++ x ∷ []) ys
picks_none P [] ys x h p = inr (p, h)
picks_none P (z ∷ xs) ys x (inl h) p = inl (h.0, (h.1.0, h.1.1, picks_none P xs h.1.0 x h.1.2 p))
picks_none P (z ∷ xs) ys x (inr h) p = inr (h.0, picks_none P xs ys x h.1 p)

-- P holds of those that are picked
picked_all : {X : Type 0} (P : X → Type 0) (xs ys : List X) → Picks P xs ys → All P ys
picked_all P [] ys h = subst (All P) (sym h) (All-nil P)
picked_all P (x ∷ xs) ys (inl h) = subst (All P) (sym h.1.1) (All-cons P x h.1.0 h.0 (picked_all P xs h.1.0 h.1.2))
picked_all P (x ∷ xs) ys (inr h) = picked_all P xs ys h.1

same_only : {X : Type 0} (y x : X) → Contains (y ∷ []) x → y ≡ x
same_only {X} y x h = elim (Contains-push_cases [] y x h) [ inl none ↦ absurd (omega (arith, none.1)) | inr same ↦ same ]

-- and all for which it holds are picked
all_picked : {X : Type 0} (P : X → Type 0) (xs ys : List X) (x : X) → Picks P xs ys → Contains xs x → P x → Contains ys x
all_picked P [] ys x h among p = absurd (omega (arith, among.1))
all_picked {X} P (z ∷ xs) ys x (inl h) among p =
    let zs = h.1.0 in
    subst (λ l. Contains l x) (sym h.1.1) (elim (Contains-append_cases (z ∷ []) xs x among) [
      | inl here ↦ Contains-append_left (z ∷ []) zs x here
      | inr there ↦ Contains-append_right (z ∷ []) zs x (all_picked P xs zs x h.1.2 there p)
    ])
all_picked {X} P (z ∷ xs) ys x (inr h) among p = elim (Contains-append_cases (z ∷ []) xs x among) [
  | inl here ↦ absurd (h.0 (subst P (sym (same_only z x here)) p))
  | inr there ↦ all_picked P xs ys x h.1 there p
]

-- a test of P keeps the same ones
picks_filter : {X : Type 0} (P : X → Type 0) (test : X → Bool) (xs ys : List X) → ((x : X) → P x → test x ≡ true) → ((x : X) → (P x → ⊥) → test x ≡ false)
    → Picks P xs ys → ys ≡ filter test xs
picks_filter P test [] ys good bad h = h
picks_filter P test (x ∷ xs) ys good bad (inl h) =
    h.1.1 ∙ ap (λ zs. x ∷ zs) (picks_filter P test xs h.1.0 good bad h.1.2) ∙ ap (λ b. cond b (x ∷ filter test xs) (filter test xs)) (sym (good x h.0))
picks_filter P test (x ∷ xs) ys good bad (inr h) =
    picks_filter P test xs ys good bad h.1 ∙ ap (λ b. cond b (x ∷ filter test xs) (filter test xs)) (sym (bad x h.0))

-- The same as a record, which does not unfold along a long list.
pub record HasPicked {X : Type 0} (P : X → Type 0) (xs ys : List X) : Type 0 where
  picks : Picks P xs ys

-- a loop over a list begins with none,
pub none_picked : {X : Type 0} (P : X → Type 0) (all found : List X) → found ≡ [] → HasPicked P (take 0 all) found
none_picked P all found h = record { picks = h }

-- takes one,
pub one_picked : {X : Type 0} (P : X → Type 0) (all found more : List X) (i : ℕ) (d : X) → i < length all → more ≡ found ++ get_or all i d ∷ []
    → P (get_or all i d) → HasPicked P (take i all) found → HasPicked P (take (i + 1) all) more
one_picked P all found more i d within is p h =
    record {
      picks = subst (λ xs. Picks P xs more) (sym (take_more all i d within))
          (subst (Picks P (take i all ++ get_or all i d ∷ [])) (sym is) (picks_one P (take i all) found (get_or all i d) h.picks p));
    }

-- or leaves one,
pub one_left : {X : Type 0} (P : X → Type 0) (all found : List X) (i : ℕ) (d : X) → i < length all
    → (P (get_or all i d) → ⊥) → HasPicked P (take i all) found → HasPicked P (take (i + 1) all) found
one_left P all found i d within p h =
    record { picks = subst (λ xs. Picks P xs found) (sym (take_more all i d within)) (picks_none P (take i all) found (get_or all i d) h.picks p) }

whole_list : {X : Type 0} (P : X → Type 0) (all found : List X) (i : ℕ) → length all ≤ i → HasPicked P (take i all) found → Picks P all found
whole_list P all found i ended h = subst (λ xs. Picks P xs found) (take_all i all ended) h.picks

-- and in the end P holds of an element of the list exactly if it was taken,
pub exactly : {X : Type 0} (P : X → Type 0) (all found : List X) (i : ℕ) → length all ≤ i → HasPicked P (take i all) found
    → (x : X) → Contains all x → (Contains found x → P x) × (P x → Contains found x)
exactly P all found i ended h x among =
    let picks = whole_list P all found i ended h in
    (All-contains P found x (picked_all P all found picks), all_picked P all found x picks among)

-- and a test of P keeps the same ones.
pub in_order : {X : Type 0} (P : X → Type 0) (test : X → Bool) (all found : List X) (i : ℕ) → length all ≤ i
    → ((x : X) → P x → test x ≡ true) → ((x : X) → (P x → ⊥) → test x ≡ false) → HasPicked P (take i all) found → found ≡ filter test all
in_order P test all found i ended good bad h = picks_filter P test all found good bad (whole_list P all found i ended h)
