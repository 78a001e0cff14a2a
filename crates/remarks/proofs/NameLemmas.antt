-- Names that are gathered from a list.
use Rattle.std.proofs.Common.{◌≡◌, List, [], ◌∷◌, ◌++◌, map, refl, ap, ◌∙◌}
use Rattle.std.specs.List.{flat_map}
use Rattle.std.proofs.lemmas.List.{map-append}

-- the names of all that a search finds are those that it finds at each element
pub each_mapped : {X Y Z : Type 0} (g : Y → Z) (f : X → List Y) (xs : List X) → map g (flat_map f xs) ≡ flat_map (λ x. map g (f x)) xs
each_mapped g f [] = refl
each_mapped g f (x ∷ xs) = map-append g (f x) (flat_map f xs) ∙ ap (λ l. map g (f x) ++ l) (each_mapped g f xs)
