use Rattle.std.proofs.Common.{◌≡◌, map, take}
use Rattle.declarations.specs.Types.{type_meant}
use Rattle.declarations.specs.Program.{ProgramText}
use Rattle.declarations.specs.Scopes.{IsScope}
use Rattle.names.proofs.arguments.types_of.Given as goal

abbrev pub invariant-loop-one : goal.invariant-loop-one
invariant-loop-one g l = (p : ProgramText) → IsScope p l.scope
    → l.types.items ≡ map (λ x. type_meant p (g.T.Typed.as_written x)) (take l.one-index l.one-items)
