-- Groups one after another in a list, each given by the index at which it ends.
use Rattle.std.specs.Prelude.{ℕ, zero, suc, ◌<◌, ◌≤◌, List, [], ◌∷◌, length, get_or}
use Rattle.std.specs.List.{between}

-- where a group begins: the first one at `start`, each other one where the previous one ends
abbrev pub start_of : ℕ → List ℕ → ℕ → ℕ
start_of start ends zero = start
start_of start ends (suc v) = get_or ends v 0

-- each group ends within the list, and not before it begins
abbrev pub AreWithin : {T : Type 0} → List T → List ℕ → Type 0
AreWithin items ends = (v : ℕ) → v < length ends → (start_of 0 ends v ≤ get_or ends v 0) × (get_or ends v 0 ≤ length items)

-- the groups in a list, beginning at `start`
abbrev pub cut_from : {T : Type 0} → ℕ → List T → List ℕ → List (List T)
cut_from start items [] = []
cut_from start items (end ∷ ends) = between start end items ∷ cut_from end items ends

abbrev pub cut : {T : Type 0} → List T → List ℕ → List (List T)
cut items ends = cut_from 0 items ends
