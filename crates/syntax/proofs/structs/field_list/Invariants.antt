use Rattle.std.proofs.Common.{◌≡◌, ◌++◌, length}
use Rattle.std.specs.List.{flat_map}
use Rattle.tree.specs.Programs.{field}
use Rattle.syntax.proofs.structs.field_list.Given as goal

abbrev pub invariant-each : goal.invariant-each
invariant-each l = l.fn.cursor ≡ flat_map field l.all.items ++ l.cursor

abbrev pub decreases-each : goal.decreases-each
decreases-each l = length l.cursor
