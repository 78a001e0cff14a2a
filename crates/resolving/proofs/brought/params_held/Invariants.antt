use Rattle.std.proofs.Common.{◌≡◌, take}
use Rattle.declarations.specs.Program.{ProgramText}
use Rattle.resolving.specs.Around.{IsDirectory}
use Rattle.resolving.specs.Brought.{params_held}
use Rattle.resolving.proofs.brought.params_held.Given as goal

abbrev pub invariant-loop-param : goal.invariant-loop-param
invariant-loop-param l = (p : ProgramText) → IsDirectory p l.directory → l.types.items ≡ params_held p (take l.param-index l.params)
