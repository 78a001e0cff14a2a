use Rattle.declarations.specs.Program.{ProgramText}
use Rattle.declarations.specs.Scopes.{IsScope, AreNoted}
use Rattle.declarations.proofs.noted.NotedTypes.of.Given as goal

abbrev pub invariant-loop-written : goal.invariant-loop-written
invariant-loop-written l = (p : ProgramText) → IsScope p l.scope → AreNoted p l.noted
