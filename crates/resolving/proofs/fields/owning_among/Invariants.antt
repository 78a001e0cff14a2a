use Rattle.std.proofs.Common.{◌≡◌, take}
use Rattle.declarations.specs.Program.{ProgramText}
use Rattle.resolving.specs.Around.{IsDirectory, indices_held}
use Rattle.resolving.specs.Fields.{fields_held}
use Rattle.resolving.proofs.fields.owning_among.Given as goal

abbrev pub invariant-loop-index : goal.invariant-loop-index
invariant-loop-index l = (p : ProgramText) → IsDirectory p l.directory
    → (l.types.items ≡ fields_held p (take l.index l.fields)) × (l.indices.items ≡ indices_held p (take l.index l.fields))
