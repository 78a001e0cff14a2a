-- Facts on lists that two crates need.
use Rattle.std.proofs.Common.{◌≡◌, ℕ, Some, slice_get, drop, zero, suc, ◌+◌, ◌-◌, ◌<◌, ◌==◌, List, [], ◌∷◌, ◌++◌, length, map, take, get_or, true, false, refl, sym, ap, ◌∙◌, arith}
use Rattle.std.specs.List.{flat_map, enumerate_from}
use Rattle.std.proofs.lemmas.List.{length-append, map-append, flat_map_more, take_more}
use Rattle.std.proofs.Math.Seq.{take-append_seam}
use Rattle.std.proofs.lemmas.Bool.{eqb-true}

-- all but the last
pub front_of : {X : Type 0} (xs front : List X) (x : X) → xs ≡ front ++ x ∷ [] → take (length xs - 1) xs ≡ front
front_of xs front x is =
    let size = ap length is ∙ length-append front (x ∷ []) in
    let n : length xs - 1 ≡ length front = omega (arith, size) in
    ap (λ k. take k xs) n ∙ ap (take (length front)) is ∙ take-append_seam front (x ∷ [])

-- if two lists in a row are empty, each is

pub nil_left : {X : Type 0} (a b : List X) → a ++ b ≡ [] → a ≡ []
nil_left [] b none = refl
nil_left (x ∷ a) b none = cc

pub nil_right : {X : Type 0} (a b : List X) → a ++ b ≡ [] → b ≡ []
nil_right [] b none = none
nil_right (x ∷ a) b none = cc

-- the last element has the number after all others
pub enumerate_push : {X : Type 0} (n : ℕ) (xs : List X) (x : X) → enumerate_from n (xs ++ x ∷ []) ≡ enumerate_from n xs ++ (n + length xs, x) ∷ []
enumerate_push n [] x = ap (λ k. (k, x) ∷ []) (omega arith)
enumerate_push n (y ∷ ys) x =
    ap (λ l. (n, y) ∷ l) (enumerate_push (n + 1) ys x ∙ ap (λ k. enumerate_from (n + 1) ys ++ (k, x) ∷ []) (omega arith))

-- what one more element adds
pub flat_more : {X Y Z : Type 0} (f : Y → List Z) (g : X → Y) (xs : List X) (i : ℕ) (x : X) → i < length xs → x ≡ get_or xs i x
    → flat_map f (map g (take (i + 1) xs)) ≡ flat_map f (map g (take i xs)) ++ f (g x)
flat_more f g xs i x lt is =
    let taken = ap (map g) (take_more xs i x lt ∙ ap (λ y. take i xs ++ y ∷ []) (sym is)) ∙ map-append g (take i xs) (x ∷ []) in
    ap (flat_map f) taken ∙ sym (flat_map_more f [] (map g (take i xs)) (g x))

-- whether a count is 0

pub some_of : (n m : ℕ) → n ≡ m → (n == 0) ≡ false → 0 < m
some_of zero m is h = cc
some_of (suc n) m is h = omega (arith, is)

pub none_of : (n m : ℕ) → n ≡ m → (n == 0) ≡ true → m ≡ 0
none_of n m is h = sym is ∙ eqb-true n 0 h

-- the last element is at its index
pub last_there : {X : Type 0} (xs : List X) (x : X) → slice_get (xs ++ x ∷ []) (length xs) ≡ Some x
last_there [] x = refl
last_there (z ∷ xs) x = last_there xs x

-- nothing is left of an empty list
pub none_left : {X : Type 0} (i : ℕ) → drop {A = X} i [] ≡ []
none_left zero = refl
none_left (suc i) = refl
