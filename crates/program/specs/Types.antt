-- When two scalar types, and two sides of a channel, are the same.
use Rattle.std.specs.Prelude.{Bool, true, false}
use Rattle.program.specs.declared.types.Scalar.{Scalar}
use Rattle.program.specs.declared.types.Scalar.TheVariants as scalar
use Rattle.program.specs.declared.types.Side.{Side}
use Rattle.program.specs.declared.types.Side.TheVariants as side

-- whether two scalar types are the same
abbrev pub same_scalar : Scalar → Scalar → Bool
same_scalar scalar.Int scalar.Int = true
same_scalar scalar.Byte scalar.Byte = true
same_scalar scalar.Bool scalar.Bool = true
same_scalar _ _ = false

-- whether two sides are the same: both importer, or both exporter
abbrev pub same_side : Side → Side → Bool
same_side side.Imp side.Imp = true
same_side side.Exp side.Exp = true
same_side _ _ = false
