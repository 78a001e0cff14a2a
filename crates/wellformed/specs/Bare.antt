-- Methods that take nothing.
use Rattle.std.specs.Prelude.{◌≡◌, ℕ, false, Some, slice_get}
use Rattle.program.specs.Methods.{MethodModel, VariableModel}
use Rattle.program.specs.WellFormed.{is_parameter}

-- a method without parameters of any kind has none of the exchange heap either
abbrev pub IsBare : MethodModel → Type 0
IsBare m = m.takes ≡ false → (v : ℕ) (x : VariableModel) → slice_get m.variables v ≡ Some x → is_parameter x.role ≡ false
