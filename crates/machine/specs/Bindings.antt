-- The variables of a frame as bindings of those that were ever given something.
use Rattle.std.specs.Prelude.{ℕ, ◌==◌, ◌<◌, ◌≤◌, ◌≡◌, false, if◌then◌else◌, List, [], ◌∷◌, map, length, get_or, Option, Some, None}
use Rattle.std.specs.List.{range_with_len}
use Rattle.program.specs.declared.number.VarId.{VarId}
use Rattle.machine.specs.declared.variables.Binding.{Binding}

-- the address in a binding
abbrev pub address_of : Binding → Option ℕ
address_of b = if b.has_address then Some b.address else None

-- the address that a variable has: that in its first binding
abbrev pub address_in : List Binding → ℕ → Option ℕ
address_in [] v = None
address_in (b ∷ bindings) v = if b.variable == v then address_of b else address_in bindings v

-- what the variables with numbers below a count have, in order
unfoldable pub variables_in : ℕ → List Binding → List (Option ℕ)
variables_in count bindings = map (address_in bindings) (range_with_len 0 count)

-- the binding that is read past the end
abbrev pub no_binding : Binding
no_binding = record { has_address = false; variable = 0; address = 0 }

-- the variable of the binding at an index
abbrev pub variable_at : List Binding → ℕ → ℕ
variable_at bindings i = let b = get_or bindings i no_binding in b.variable

-- The bindings are sorted by variable, so no variable has two, and each variable is below the count.
pub record AreSorted (count : ℕ) (bindings : List Binding) : Type 0 where
  pub rise : (i j : ℕ) → i < j → j < length bindings → variable_at bindings i < variable_at bindings j
  pub below : (i : ℕ) → i < length bindings → variable_at bindings i < count

-- the binding at an index is the variable's
pub record IsAt (bindings : List Binding) (v i : ℕ) : Type 0 where
  pub within : i < length bindings
  pub same : variable_at bindings i ≡ v

-- The variable has no binding. One would go to this index.
pub record IsGap (bindings : List Binding) (v i : ℕ) : Type 0 where
  pub within : i ≤ length bindings
  pub smaller : (j : ℕ) → j < i → variable_at bindings j < v
  pub greater : (j : ℕ) → i ≤ j → j < length bindings → v < variable_at bindings j

-- A variable may be given something without allocating: it has a binding, or the method has no such variable.
pub data MayTake (count : ℕ) (bindings : List Binding) (v : ℕ) : Type 0 where
  has_binding : (i : ℕ) → IsAt bindings v i → MayTake count bindings v
  no_variable : count ≤ v → MayTake count bindings v

-- each of these variables may be given something without allocating
pub record AllMayTake (count : ℕ) (bindings : List Binding) (variables : List VarId) : Type 0 where
  pub may : (k : ℕ) (d : VarId) → k < length variables → MayTake count bindings (get_or variables k d).0
