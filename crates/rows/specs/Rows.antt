-- Rows: what each variable of a method has at a point.
use Rattle.std.specs.Prelude.{◌≡◌, ℕ, Bool, List, length, Option, Some, None, slice_get}
use Rattle.program.specs.Methods.{MethodModel}
use Rattle.rows.specs.Leaves.{is_something}
use Rattle.rows.specs.declared.row.Leaf.{Leaf}
use Rattle.rows.specs.declared.row.Leaf.TheVariants.{Nothing}
use Rattle.rows.specs.declared.row.Row.{Row}

abbrev pub row_model : Row → List Leaf
row_model r = r.leaves.items

-- a leaf; nothing if there is none
abbrev pub leaf_or_nothing : Option Leaf → Leaf
leaf_or_nothing (Some leaf) = leaf
leaf_or_nothing None = Nothing

-- what a variable has
abbrev pub leaf_at : List Leaf → ℕ → Leaf
leaf_at row variable = leaf_or_nothing (slice_get row variable)

-- whether a variable has something
abbrev pub is_owned : List Leaf → ℕ → Bool
is_owned row variable = is_something (leaf_at row variable)

-- the row has a leaf for each variable of the method
abbrev pub IsRowOf : MethodModel → List Leaf → Type 0
IsRowOf m row = length row ≡ length m.variables
