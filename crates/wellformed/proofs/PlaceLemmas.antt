-- The element at an index of a list.
use Rattle.std.proofs.Common.{◌≡◌, ℕ, zero, suc, ◌+◌, List, [], ◌∷◌, ◌++◌, length, map, sym, refl, ap, ◌∙◌, subst, arith}
use Rattle.std.specs.List.{flat_map}
use Rattle.std.specs.Prelude.{Some, slice_get}
use Rattle.program.specs.Lists.{Each}
use Rattle.wellformed.proofs.ListLemmas.{both_none}

-- before another list
pub slice_front : {X : Type 0} → (xs ys : List X) (n : ℕ) (x : X) → slice_get xs n ≡ Some x → slice_get (xs ++ ys) n ≡ Some x
slice_front [] ys n x at = cc
slice_front (y ∷ xs) ys zero x at = at
slice_front (y ∷ xs) ys (suc n) x at = slice_front xs ys n x at

-- after another list
pub slice_behind : {X : Type 0} → (xs ys : List X) (n : ℕ) → slice_get (xs ++ ys) (length xs + n) ≡ slice_get ys n
slice_behind [] ys n = let on : 0 + n ≡ n = omega arith in ap (slice_get ys) on
slice_behind (x ∷ xs) ys n = let on : suc (length xs) + n ≡ suc (length xs + n) = omega arith in ap (slice_get (x ∷ xs ++ ys)) on ∙ slice_behind xs ys n

-- between two others
pub at_seam : {X : Type 0} → (xs rest : List X) (x : X) → slice_get ((xs ++ x ∷ []) ++ rest) (length xs) ≡ Some x
at_seam [] rest x = refl
at_seam (y ∷ xs) rest x = at_seam xs rest x

-- a property at each index holds throughout
pub each_placed : {X : Type 0} → (P : X → Type 0) (xs : List X) → ((n : ℕ) (x : X) → slice_get xs n ≡ Some x → P x) → Each P xs
each_placed P [] at = tt
each_placed P (x ∷ xs) at = (at zero x refl, each_placed P xs (λ n. at (suc n)))

-- a property that holds throughout holds at each index
pub each_there : {X : Type 0} → (P : X → Type 0) (xs : List X) (n : ℕ) (x : X) → Each P xs → slice_get xs n ≡ Some x → P x
each_there P [] n x each is = absurd (cc)
each_there P (y ∷ xs) zero x each is = subst P (let same : y ≡ x = cc in same) each.0
each_there P (y ∷ xs) (suc n) x each is = each_there P xs n x each.1 is

-- a property of each element of a mapped list
pub each_mapped : {X Y : Type 0} → (P : Y → Type 0) (f : X → Y) (xs : List X) → Each (λ x. P (f x)) xs → Each P (map f xs)
each_mapped P f [] all = tt
each_mapped P f (x ∷ xs) all = (all.0, each_mapped P f xs all.1)

pub mapped_each : {X Y : Type 0} → (P : Y → Type 0) (f : X → Y) (xs : List X) → Each P (map f xs) → Each (λ x. P (f x)) xs
mapped_each P f [] all = tt
mapped_each P f (x ∷ xs) all = (all.0, mapped_each P f xs all.1)

-- lists that are empty one after another are all empty
pub each_none : {X Y : Type 0} → (f : X → List Y) (xs : List X) → flat_map f xs ≡ [] → Each (λ x. f x ≡ []) xs
each_none f [] none = tt
each_none f (x ∷ xs) none = let both = both_none (f x) (flat_map f xs) none in (both.0, each_none f xs both.1)

pub none_there : {X Y : Type 0} → (f : X → List Y) (xs : List X) (n : ℕ) (x : X) → flat_map f xs ≡ [] → slice_get xs n ≡ Some x → f x ≡ []
none_there f [] n x none at = cc
none_there f (y ∷ xs) zero x none at = let same : y ≡ x = cc in sym (ap f same) ∙ (both_none (f y) (flat_map f xs) none).0
none_there f (y ∷ xs) (suc n) x none at = none_there f xs n x (both_none (f y) (flat_map f xs) none).1 at
