-- The edges of a contract in order of their states and messages.
use Rattle.std.specs.Prelude.{◌≡◌, ℕ, ◌<◌, ◌==◌, nat_lt, Bool, ◌&&◌, ◌||◌, ◌⊎◌}
use Rattle.std.specs.Prelude.{List, length, map, All, Contains, get_or}
use Rattle.program.specs.declared.contract.Edge.{Edge}
use Rattle.contracts.specs.Positions.{key_of}

-- the key of the edge at i
abbrev pub key_at : List Edge → ℕ → ℕ × ℕ
key_at edges i = get_or (map key_of edges) i (0, 0)

-- whether a key is lower: its state is, or the states are equal and its message is
abbrev pub lower : ℕ × ℕ → ℕ × ℕ → Bool
lower x y = nat_lt x.0 y.0 || ((x.0 == y.0) && nat_lt x.1 y.1)

-- whether the edge at i has a lower key
abbrev pub is_below : List Edge → ℕ → ℕ × ℕ → Bool
is_below edges i key = nat_lt i (length edges) && lower (key_at edges i) key

-- the relation that `lower` decides
abbrev pub IsLower : ℕ × ℕ → ℕ × ℕ → Type 0
IsLower x y = (x.0 < y.0) ⊎ ((x.0 ≡ y.0) × (x.1 < y.1))

-- the edge at i has a lower key than the one at j, or the same key and an earlier place
abbrev pub ComesBefore : List Edge → ℕ → ℕ → Type 0
ComesBefore edges i j = IsLower (key_at edges i) (key_at edges j) ⊎ ((key_at edges i ≡ key_at edges j) × (i < j))

-- the indices of all edges in this order
pub record IsOrder (edges : List Edge) (order : List ℕ) : Type 0 where
  pub within : All (λ i. i < length edges) order
  pub all : (i : ℕ) → i < length edges → Contains order i
  pub rises : (a b : ℕ) → a < b → b < length order → ComesBefore edges (get_or order a 0) (get_or order b 0)

-- an edge before the one at i has the same key
abbrev pub HasEarlier : List Edge → ℕ → Type 0
HasEarlier edges i = (j : ℕ) × (j < i) × (key_at edges j ≡ key_at edges i)

-- the keys and the indices of the first n edges
pub record AreEntries (edges : List Edge) (n : ℕ) (entries : List ((ℕ × ℕ) × ℕ)) : Type 0 where
  pub long : length entries ≡ n
  pub each : (i : ℕ) → i < n → get_or entries i ((0, 0), 0) ≡ (key_at edges i, i)
