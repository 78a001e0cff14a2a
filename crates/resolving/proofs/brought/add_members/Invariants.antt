use Rattle.std.proofs.Common.{◌≡◌, ◌++◌}
use Rattle.declarations.specs.Program.{ProgramText}
use Rattle.resolving.specs.Around.{IsDirectory}
use Rattle.program.specs.Programs.{type_lists}
use Rattle.resolving.proofs.BroughtLemmas.{first_members}
use Rattle.resolving.proofs.brought.add_members.Given as goal

abbrev pub invariant-loop-member : goal.invariant-loop-member
invariant-loop-member l = (p : ProgramText) → IsDirectory p l.directory → type_lists l.told.items ≡ type_lists l.fn.told.items ++ first_members p l.members l.member-index
