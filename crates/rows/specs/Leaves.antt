-- Leaves: what a variable has, and which leaves a row may have.
use Rattle.std.specs.Prelude.{◌<◌, ◌≤◌, Bool, true, false, List, All, length}
use Rattle.std.specs.Coded.{Π_prop, Unit-prop, le_prop}
use Rattle.program.specs.declared.limits.TheConstants.{MOST_STATES, MOST_VARIABLES}
use Rattle.rows.specs.declared.row.Leaf.{Leaf}
use Rattle.rows.specs.declared.row.Leaf.TheVariants.{Nothing, Block, CutOff, State}

-- whether a leaf is not Nothing
abbrev pub is_something : Leaf → Bool
is_something Nothing = false
is_something _ = true

-- if the leaf is a state, its number is one that a state may have
abbrev pub IsNumbered : Leaf → Type 0
IsNumbered (State number) = number < MOST_STATES
IsNumbered _ = Unit {0}

-- a method may have these leaves
pub record AreLeaves (leaves : List Leaf) : Type 0 where
  pub few : length leaves ≤ MOST_VARIABLES
  pub numbered : All IsNumbered leaves

-- there is at most one proof of `IsNumbered`
numbered_once : (leaf : Leaf) → IsProp (IsNumbered leaf)
numbered_once Nothing = Unit-prop
numbered_once Block = Unit-prop
numbered_once CutOff = Unit-prop
numbered_once (State number) = le_prop

pub all_numbered_once : (leaves : List Leaf) → IsProp (All IsNumbered leaves)
all_numbered_once leaves = Π_prop (λ k. Π_prop (λ d. Π_prop (λ there. numbered_once _)))
