use Rattle.std.proofs.Common.{take}
use Rattle.std.specs.List.{flat_map}
use Rattle.declarations.specs.Types.{type_unknown}
use Rattle.declarations.specs.Mistakes.{Adds}
use Rattle.declarations.specs.Program.{ProgramText}
use Rattle.declarations.specs.Scopes.{IsScope}
use Rattle.declarations.proofs.message_types.judge_types.Given as goal

abbrev pub invariant-loop-param : goal.invariant-loop-param
invariant-loop-param l = (p : ProgramText) → IsScope p l.scope → Adds l.fn.found.items l.found.items (flat_map (λ x. type_unknown p x.ty) (take l.param-index l.params))
