-- The symbols with which parts of methods could continue.
use Rattle.std.specs.Prelude.{Bool, Option, Some, None}
use Rattle.tree.specs.Symbols.{Symbol}
use Rattle.syntax.specs.Reading.{never}
use Rattle.syntax.specs.Types.{type_at}
use Rattle.tree.specs.declared.types as tree

-- the symbols with which this result type could continue
abbrev pub result_at : Option tree.Type.Type → Symbol → Bool
result_at None = never
result_at (Some t) = type_at t
