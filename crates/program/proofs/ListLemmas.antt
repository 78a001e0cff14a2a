-- Elements of lists.
use Rattle.std.proofs.Common.{ℕ, zero, suc, ◌<◌, List, [], ◌∷◌, length, map, get_or, arith}
use Rattle.program.specs.Lists.{Each}

-- what holds of each image holds of the image of the element at an index
pub each_made : {X Y : Type 0} → (f : X → Y) (P : Y → Type 0) (xs : List X) (n : ℕ) (d : X) → n < length (map f xs) → Each P (map f xs) → P (f (get_or xs n d))
each_made f P [] n d within all = absurd (omega arith)
each_made f P (x ∷ xs) zero d within all = all.0
each_made f P (x ∷ xs) (suc n) d within all = let further : n < length (map f xs) = omega arith in each_made f P xs n d further all.1
