-- The positions of keys in a list.
use Rattle.std.specs.Prelude.{ℕ, List, Option, position}
use Rattle.std.specs.declared.cmp.Ordering.{Ordering}
use Rattle.std.specs.Ordering.{is_eq}

-- the first position of a key
abbrev pub first_position : {K : Type 0} → (K → K → Ordering) → List K → K → Option ℕ
first_position cmp keys key = position (λ x. is_eq (cmp key x)) keys
